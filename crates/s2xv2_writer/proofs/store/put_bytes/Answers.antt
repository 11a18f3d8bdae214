-- `s2xv2_writer::store::put_bytes` meets its contract: each turn is one store more.
-- Assumes nothing.
use mathlib.Core.Path.{refl, ap, ◌∙◌}
use mathlib.Core.List.{List}
use Prim.Native.Nat.{ℕ, ◌+◌}
use native.Mathlib.Omega.{arith}
use lib.ListN.{set, get_or}
use Rattle.wire.specs.Store.{stored_from}
use Rattle.wire.proofs.Stores.{stored_more}
use Rattle.s2xv2_writer.proofs.store.put_bytes.Goals as goal

pub loop-i-init : goal.loop-i-init
unfolding stored_from
loop-i-init c = refl

pub loop-i-preserved : goal.loop-i-preserved
loop-i-preserved c =
    let a = c.args in
    let i = c.loop-i.i in
    ap (λ (b : List ℕ). set b (a.p + i) (get_or a.t.now i 0)) c.loop-i.invariant ∙ stored_more a.buf.now a.p a.t.now i (omega arith)
