-- `s2xv2_fields::parts::scrambling` meets its contract: each arm writes its case of the definition.
-- Assumes nothing.
use Rattle.s2xv2_fields.specs.Fields.{scrambling_of}
use Rattle.lines.proofs.Laws.{nothing, then2}
use Rattle.s2xv2_fields.proofs.parts.scrambling.Goals as goal

pub returns-in-Some : goal.returns-in-Some
unfolding scrambling_of
returns-in-Some c =
    rw c.in-Some.is
    (then2 c.line.ensures
    c.line-in-Some.ensures)

pub returns-in_default : goal.returns-in_default
unfolding scrambling_of
returns-in_default c = rw c.in_default.is nothing
