-- `s2xv2_fields::superframe::block_middle` meets its contract: one text after the other.
-- Assumes nothing.
use Rattle.s2xv2_fields.specs.Fields.{block_lines}
use Rattle.lines.proofs.Laws.{then4}
use Rattle.s2xv2_fields.proofs.superframe.block_middle.Goals as goal

pub returns : goal.returns
unfolding block_lines
returns c =
    then4 c.line.ensures
    c.or_reserved.ensures
    c.line-2.ensures
    c.part.ensures
