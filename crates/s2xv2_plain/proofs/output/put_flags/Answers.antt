-- `s2xv2_plain::output::put_flags` meets its contract: each store is one of those asked for, in their order.
-- Assumes nothing.
use Rattle.wire.specs.Store.{stored_from}
use Rattle.s2xv2_plain.proofs.output.put_flags.Goals as goal

pub returns : goal.returns
unfolding stored_from
returns c =
    simp (
      c.bit_of-11.ensures.0,
      c.bit_of-10.ensures.0,
      c.bit_of-9.ensures.0,
      c.bit_of-8.ensures.0,
      c.bit_of-7.ensures.0,
      c.bit_of-6.ensures.0,
      c.bit_of-5.ensures.0,
      c.bit_of-4.ensures.0,
      c.bit_of-3.ensures.0,
      c.bit_of-2.ensures.0,
      c.bit_of.ensures.0,
      c.is_some-7.ensures,
      c.is_some-6.ensures,
      c.is_some-5.ensures,
      c.is_some-4.ensures,
      c.is_some-3.ensures,
      c.is_some-2.ensures,
      c.is_some.ensures,
      c.is_reserved.ensures,
      c.unwrap_or.ensures,
      c.block_of-f.ensures,
    )
