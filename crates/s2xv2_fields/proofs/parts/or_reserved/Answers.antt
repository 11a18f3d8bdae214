-- `s2xv2_fields::parts::or_reserved` meets its contract: each arm writes its case of the definition.
-- Assumes nothing.
use Rattle.s2xv2_fields.specs.Fields.{line_or}
use Rattle.s2xv2_fields.proofs.parts.or_reserved.Goals as goal

pub returns-in-Some : goal.returns-in-Some
unfolding line_or
returns-in-Some g c = rw c.in-Some.is c.line.ensures

pub returns-in-None : goal.returns-in-None
unfolding line_or
returns-in-None g c = rw c.in-None.is c.line-in-None.ensures
