-- `s2xv2_fields::parts::part` meets its contract: each arm writes its case of the definition.
-- Assumes nothing.
use Rattle.s2xv2_fields.specs.Fields.{line_if}
use Rattle.lines.proofs.Laws.{nothing}
use Rattle.s2xv2_fields.proofs.parts.part.Goals as goal

pub returns-in-Some : goal.returns-in-Some
unfolding line_if
returns-in-Some g c = rw c.in-Some.is c.line.ensures

pub returns-in_default : goal.returns-in_default
unfolding line_if
returns-in_default g c = rw c.in_default.is nothing
