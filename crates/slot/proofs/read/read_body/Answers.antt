-- `slot::read::read_body` meets its contract: a start is what the reader tells, and the tail starts inside the body.
-- Assumes nothing.
use mathlib.Core.Path.{refl}
use Rattle.std.specs.Prelude.{◌≡◌, [], ◌∷◌}
use Rattle.s2xv2.specs.Read.{read_told}
use Rattle.s2xv2_reader.proofs.Shown.{tells-end}
use Rattle.slot.proofs.Reading.{starts-within}
use Rattle.slot.proofs.read.read_body.Goals as goal
use Rattle.slot.proofs.read.read_body.Goals.{in-Some, in-None+in_ok-start-in-None}

pub tail_at-requires : goal.tail_at-requires
tail_at-requires c =
    let s = c.args.body.now in
    let t : 0 ∷ c.match-read_into.start ∷ [] ≡ read_told s =
    elim c.match-read_into.branch [
      | in-Some w ↦ rw w.start-is (tells-end s _ w.in-Some.ensures.end)
      | in-None+in_ok-start-in-None w ↦ rw w.start-is w.in_ok-start-in-None.ensures
    ] in
    (starts-within s _ t _ refl, c.requires.0, c.requires.1)
