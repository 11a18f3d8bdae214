-- `s2xv2_writer::store::put` meets its contract: a byte is its own remainder.
-- Assumes nothing.
use mathlib.Core.Path.{◌≡◌, ap}
use Prim.Native.Nat.{◌%◌}
use native.Mathlib.Omega.{arith}
use lib.ListN.{set}
use Rattle.wire.specs.Store.{stored_from}
use Rattle.s2xv2_writer.proofs.store.put.Goals as goal

pub returns : goal.returns
unfolding stored_from
returns c =
    let a = c.args in
    let e : a.v ≡ a.v % 256 = omega arith in
    ap (set a.buf.now a.p) e
