-- `s2xv2_fields::superframe::superframe` meets its contract: each arm writes its case of the definition.
-- Assumes nothing.
use Rattle.s2xv2_fields.specs.Fields.{superframe_text}
use Rattle.lines.proofs.Laws.{nothing}
use Rattle.s2xv2_fields.proofs.superframe.superframe.Goals as goal

pub returns-in-Some : goal.returns-in-Some
unfolding superframe_text
returns-in-Some c = rw c.in-Some.is c.block.ensures

pub returns-in_default : goal.returns-in_default
unfolding superframe_text
returns-in_default c = rw c.in_default.is nothing
