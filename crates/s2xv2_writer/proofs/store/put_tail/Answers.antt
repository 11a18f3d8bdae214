-- `s2xv2_writer::store::put_tail` meets its contract: four to eight bytes are their first four and their last four.
-- Assumes nothing.
use mathlib.Core.Path.{ap, ◌∙◌}
use mathlib.Core.List.{List}
use Prim.Native.Nat.{ℕ, ◌+◌, ◌-◌}
use native.Mathlib.Omega.{arith}
use native.Mathlib.Nat.{add-zero}
use lib.ListN.{length, take, drop}
use Rattle.wire.specs.Store.{stored_from}
use Rattle.wire.proofs.Stores.{stored-ends}
use Rattle.s2xv2_writer.proofs.store.put_tail.Goals as goal

pub returns-then-n-le8 : goal.returns-then-n-le8
returns-then-n-le8 c =
    let a = c.args in
    let l = a.buf.now in
    let t = a.t.now in
    let k = length t - 4 in
    let e = c.put_four.ensures ∙ ap (λ (i : ℕ). stored_from l i (take 4 t)) (add-zero a.p) in
    c.put_four-then-n-le8.ensures
    ∙ ap (λ (m : List ℕ). stored_from m (a.p + k) (take 4 (drop k t))) e
    ∙ stored-ends l a.p 4 t k (omega arith) (omega arith)
