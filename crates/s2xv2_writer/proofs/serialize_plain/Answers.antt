-- `s2xv2_writer::serialize_plain` meets its contract: what the quick tests pass is accepted and stored, and the rest goes the long way.
-- Assumes nothing.
use native.Mathlib.Omega.{arith}
use Rattle.s2xv2_writer.proofs.Ready.{wrote-short}
use Rattle.s2xv2_writer.proofs.serialize_plain.Goals as goal

pub overflow_cast-length : goal.overflow_cast-length
overflow_cast-length c = let k = wrote-short _ _ _ _ _ c.in-Some.ensures.wrote in omega arith
