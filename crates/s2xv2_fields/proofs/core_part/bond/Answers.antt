-- `s2xv2_fields::core_part::bond` meets its contract: one text after the other.
-- Assumes nothing.
use Rattle.s2xv2_fields.specs.Fields.{core_lines}
use Rattle.lines.proofs.Laws.{then4}
use Rattle.s2xv2_fields.proofs.core_part.bond.Goals as goal

pub returns : goal.returns
unfolding core_lines
returns c =
    then4 c.line.ensures
    c.line-2.ensures
    c.or_reserved.ensures
    c.line-3.ensures
