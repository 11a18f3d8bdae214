-- `s2xv2_reader::parse` meets its contract: an end is what is told, and what was stored means the record that is shown.
-- Assumes nothing.
use Rattle.std.specs.Prelude.{◌≡◌, [], ◌∷◌}
use Rattle.s2xv2.specs.Read.{read_told}
use Rattle.s2xv2_reader.proofs.Shown.{tells-end, shown-back}
use Rattle.s2xv2_reader.proofs.parse.Goals as goal
use Rattle.s2xv2_reader.proofs.parse.Goals.{in-Some, in-None+in_ok-tail_start-in-None}

pub returns : goal.returns
returns c =
    let s = c.args.sel.now in
    let e = c.read_into.ensures in
    let t : 0 ∷ c.match-read_into.tail_start ∷ [] ≡ read_told s =
    elim c.match-read_into.branch [
      | in-Some w ↦ rw w.tail_start-is (tells-end s _ w.in-Some.ensures.end)
      | in-None+in_ok-tail_start-in-None w ↦ rw w.tail_start-is w.in_ok-tail_start-in-None.ensures
    ] in
    simp (t, c.of_plain.ensures, e.numbers, e.bytes, shown-back s)
