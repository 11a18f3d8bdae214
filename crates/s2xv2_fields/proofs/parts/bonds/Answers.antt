-- `s2xv2_fields::parts::bonds` meets its contract: each arm writes its case of the definition.
-- Assumes nothing.
use borrow.Author.Tests.{eq-eqb, ne_eqb}
use Rattle.s2xv2_fields.specs.Fields.{bonds_of}
use Rattle.lines.proofs.Laws.{nothing, then3}
use Rattle.s2xv2_fields.proofs.parts.bonds.Goals as goal

pub returns-then-count-ne0 : goal.returns-then-count-ne0
unfolding bonds_of
returns-then-count-ne0 c = rw (ne_eqb _ _ c.if-count-ne0.true) (then3 c.line.ensures c.id.ensures c.second.ensures)

pub returns-else-count-ne0 : goal.returns-else-count-ne0
unfolding bonds_of
returns-else-count-ne0 c = rw (eq-eqb _ _ c.if-count-ne0.false) nothing
