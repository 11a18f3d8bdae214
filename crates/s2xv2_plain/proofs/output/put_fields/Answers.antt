-- `s2xv2_plain::output::put_fields` meets its contract: each store is one of those asked for, in their order.
-- Assumes nothing.
use Rattle.wire.specs.Store.{stored_from}
use Rattle.s2xv2_plain.proofs.output.put_fields.Goals as goal

pub returns : goal.returns
unfolding stored_from
returns c =
    simp (
      c.unwrap_or-2.ensures,
      c.unwrap_or.ensures,
      c.to_u8.ensures,
      c.bit_of-2.ensures.0,
      c.bit_of.ensures.0,
    )
