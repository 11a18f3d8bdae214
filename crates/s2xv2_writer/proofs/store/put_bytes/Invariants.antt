-- `s2xv2_writer::store::put_bytes` meets its contract. The invariant: after i turns the first i bytes are stored.
-- Assumes nothing.
use mathlib.Core.Path.{◌≡◌}
use lib.ListN.{take}
use Rattle.wire.specs.Store.{stored_from}
use Rattle.s2xv2_writer.proofs.store.put_bytes.Given as goal

abbrev pub invariant-loop-i : goal.invariant-loop-i
invariant-loop-i l = l.buf ≡ stored_from l.initial.buf l.p (take l.i l.t)
