-- `s2xv2_reader::parse_answer` meets its contract: the laws of the answer say what is told of a body that is too long, and of any other.
-- Assumes nothing.
use Rattle.std.specs.Prelude.{[], ◌∷◌, length}
use mathlib.Core.Path.{sym, ◌∙◌}
use Rattle.answers.specs.Short.{short_told}
use Rattle.s2xv2.specs.Read.{present_in, body_size, least_total, short_of, needs as parts}
use Rattle.s2xv2.proofs.Reach.{told-long, told-within}
use Rattle.s2xv2_reader.proofs.parse_answer.Goals as goal

pub returns-then-sel-gt4096 : goal.returns-then-sel-gt4096
returns-then-sel-gt4096 c = rw c.saturated.ensures (sym (told-long c.args.sel.now c.if-sel-gt4096.true))

pub returns : goal.returns
unfolding body_size least_total
returns c =
    let s = c.args.sel.now in
    let e = simp (c.ends_of.ensures, c.present_in.ensures) at c.missing.ensures in
    ◌∙◌ {b = short_told (short_of s) (length s) (parts s (present_in s)) (0 ∷ body_size s ∷ [])} e (sym (told-within s c.if-sel-gt4096.false))
