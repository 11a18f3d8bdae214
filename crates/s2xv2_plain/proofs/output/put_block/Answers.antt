-- `s2xv2_plain::output::put_block` meets its contract: each store is one of those asked for, in their order.
-- Assumes nothing.
use Rattle.wire.specs.Store.{stored_from}
use Rattle.s2xv2_plain.proofs.output.put_block.Goals as goal

pub returns : goal.returns
unfolding stored_from
returns c = simp (c.unwrap_or.ensures, c.block_of-f.ensures)
