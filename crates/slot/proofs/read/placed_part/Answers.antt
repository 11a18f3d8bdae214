-- `slot::read::placed_part` meets its contract: a start is what the reader tells, and lies inside the body.
-- Assumes nothing.
use mathlib.Core.Path.{sym, ◌∙◌}
use Rattle.s2xv2.proofs.Reach.{accepted-tail}
use Rattle.s2xv2_reader.proofs.Shown.{tells-end}
use Rattle.slot.proofs.read.placed_part.Goals as goal

pub tail_at-requires : goal.tail_at-requires
tail_at-requires c =
    let s = c.args.body.now in
    ((accepted-tail s _ (tells-end s _ (sym c.in-Some.is ∙ c.tail_start.ensures))).1, c.requires.0, c.requires.1)
