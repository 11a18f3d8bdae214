-- `s2xv2_fields::superframe::block_end` meets its contract: one text after the other.
-- Assumes nothing.
use Rattle.s2xv2_fields.specs.Fields.{block_lines}
use Rattle.lines.proofs.Laws.{then2}
use Rattle.s2xv2_fields.proofs.superframe.block_end.Goals as goal

pub returns : goal.returns
unfolding block_lines
returns c = then2 c.line.ensures c.line-2.ensures
