-- `s2xv2_fields::superframe::block` meets its contract: the lists of lines one after the other are the whole.
-- Assumes nothing.
use Rattle.s2xv2_fields.specs.Fields.{block_lines}
use Rattle.s2xv2_fields.proofs.Laws.{and_then}
use Rattle.s2xv2_fields.proofs.superframe.block.Goals as goal

pub returns : goal.returns
unfolding block_lines
returns c =
    and_then _ _ c.block_start.ensures
    (and_then _ _ c.block_middle.ensures
    c.block_end.ensures)
