-- `s2xv2_fields::parts::second` meets its contract: each arm writes its case of the definition.
-- Assumes nothing.
use borrow.Author.Tests.{eq-eqb, ne_eqb}
use Rattle.s2xv2_fields.specs.Fields.{second_of}
use Rattle.lines.proofs.Laws.{nothing}
use Rattle.s2xv2_fields.proofs.parts.second.Goals as goal

pub returns-else-count-ne1 : goal.returns-else-count-ne1
unfolding second_of
returns-else-count-ne1 c = rw (eq-eqb _ _ c.if-count-ne1.false) nothing

pub returns-then-count-ne1 : goal.returns-then-count-ne1
unfolding second_of
returns-then-count-ne1 c = rw (ne_eqb _ _ c.if-count-ne1.true) c.id.ensures
