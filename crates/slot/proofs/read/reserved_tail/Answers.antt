-- `slot::read::reserved_tail` meets its contract: the tail of the body that the slot holds is the slot's.
-- Assumes nothing.
use mathlib.Core.Path.{ap, ◌∙◌}
use Rattle.s2xv2.specs.Read.{tail_of}
use Rattle.slot.proofs.Reading.{tail-in}
use Rattle.slot.proofs.read.reserved_tail.Goals as goal

pub returns : goal.returns
returns c = c.reserved_tail.ensures ∙ ap tail_of c.body_in.ensures ∙ tail-in _
