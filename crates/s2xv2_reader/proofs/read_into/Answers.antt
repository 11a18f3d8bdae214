-- `s2xv2_reader::read_into` meets its contract: a body that is stored reaches its end within the limit, and one that is not is short or too long.
-- Assumes nothing.
use mathlib.Core.Path.{ap, ◌∙◌}
use Rattle.std.specs.Prelude.{◌<◌, ◌≤◌, length, Some}
use native.Mathlib.Omega.{arith}
use Rattle.s2xv2.specs.Read.{body_size}
use Rattle.s2xv2.proofs.Sizes.{size-range}
use Rattle.s2xv2_plain.specs.Output.{numbers_of, bytes_of}
use Rattle.s2xv2_reader.proofs.Ends.{missed, reached}
use Rattle.s2xv2_reader.proofs.Shown.{shows, ends, shows-refused, ends-refused}
use Rattle.s2xv2_reader.proofs.read_into.Goals as goal
use Rattle.s2xv2_reader.proofs.read_into.Goals.{then-have-ge18+then-have-le4096+in_default, else-have-ge18, else-have-ge18-via-then-have-ge18+else-have-le4096, else-have-ge18-via-else-have-ge18}

pub returns-in-Some : goal.returns-in-Some
returns-in-Some c =
    let s = c.args.sel.now in
    let e = c.in-Some.ensures in
    let r = reached (length s) (body_size s) _ e.end in
    let h : length s ≤ 4096 = omega arith in
    let d = shows s r.1 h in
    record {
      end = ap Some r.0 ∙ ends s r.1 h;
      numbers = e.numbers ∙ ap numbers_of d;
      bytes = e.bytes ∙ ap bytes_of d;
    }

pub returns : goal.returns
returns c =
    let s = c.args.sel.now in
    let l = (size-range s).0 in
    let short : length s ≤ 4096 → length s < body_size s =
    elim c.if-have-ge18.branch [
      | then-have-ge18+then-have-le4096+in_default w ↦ λ _. missed (length s) (body_size s) w.in_default.ensures.end
      | else-have-ge18 w ↦ λ h. elim w.else-have-ge18.branch [
        | else-have-ge18-via-then-have-ge18+else-have-le4096 v ↦ omega arith
        | else-have-ge18-via-else-have-ge18 v ↦ omega arith
      ]
    ] in
    let d = shows-refused s short in
    record {
      end = ends-refused s short;
      numbers = c.clear.ensures.numbers ∙ ap numbers_of d;
      bytes = c.clear.ensures.bytes ∙ ap bytes_of d;
    }
