-- `s2xv2_writer::parts::put_bonds` meets its contract: list B passes one id or two, and the runs of stores that meet are one.
-- Assumes nothing.
use mathlib.Core.Path.{refl, sym}
use mathlib.Core.List.{[], ◌∷◌}
use Prim.Native.Nat.{◌+◌}
use native.Mathlib.Omega.{arith}
use native.Mathlib.Nat.{add-zero, add_assoc}
use borrow.Author.Tests.{eq-eqb, ne_eqb}
use Rattle.wire.specs.Store.{stored_from}
use Rattle.wire.specs.Widths.{be}
use Rattle.wire.proofs.Stores.{run}
use Rattle.s2xv2.specs.Encode.{bond_parts}
use Rattle.wire.proofs.Wide.{narrow-if}
use Rattle.s2xv2_writer.proofs.Laws.{one-bond, bond-room}
use Rattle.s2xv2_writer.proofs.parts.put_bonds.Goals as goal

pub bond_header-requires : goal.bond_header-requires
bond_header-requires c =
    (narrow-if _ 7 _ c.requires.count_value.1 (eq-eqb _ _ c.if-bond-eq1.true), rw c.less_one.ensures (narrow-if _ 1 _ c.requires.count_value.0 (eq-eqb _ _ c.if-bond-eq1.true)))

pub put-requires : goal.put-requires
put-requires c =
    let a = c.args in
    let h = narrow-if _ 1 _ c.requires.count_value.0 (eq-eqb _ _ c.if-bond-eq1.true) in
    let k = rw (eq-eqb _ _ c.if-bond-eq1.true) at c.requires.second_in_bounds in
    omega (arith, bond-room a.reserved a.count (a.first ∷ a.second ∷ []) h)

pub copy-requires : goal.copy-requires
copy-requires c =
    let if1 = c.if-bond-eq1 in
    let a = c.args in
    let h = narrow-if _ 1 _ c.requires.count_value.0 (eq-eqb _ _ if1.true) in
    let k = rw (eq-eqb _ _ if1.true) at c.requires.second_in_bounds in
    omega (arith, bond-room a.reserved a.count (a.first ∷ a.second ∷ []) h, c.put.auto.buf)

pub copy-requires-then-count-eq2 : goal.copy-requires-then-count-eq2
unfolding bond_parts
copy-requires-then-count-eq2 c =
    let k = rw (
      eq-eqb _ _ c.if-bond-eq1.true,
      c.if-count-eq2.true,
    )
    at c.requires.second_in_bounds in
    omega (arith, c.copy.auto.buf, c.put.auto.buf)

pub returns-then-count-eq2 : goal.returns-then-count-eq2
unfolding bond_parts
returns-then-count-eq2 c =
    let if2 = c.if-count-eq2 in
    let a = c.args in
    let e₁ = rw (
      c.bond_header.ensures,
      c.less_one.ensures,
    )
    at c.put.ensures in
    let e₂ = rw c.be_bytes.ensures at c.copy.ensures in
    let e₃ = rw c.be_bytes-then-count-eq2.ensures at c.copy-then-count-eq2.ensures in
    rw (
      eq-eqb _ _ c.if-bond-eq1.true,
      if2.true,
    )
    (record { place = refl; stored = run _ _ _ _ _ (rw if2.true at e₁) (run _ (a.p + 1) (be 4 a.first) (a.p + 5) (be 4 a.second) e₂ e₃ (sym (add_assoc a.p 1 4))) refl })

pub returns-else-count-eq2 : goal.returns-else-count-eq2
unfolding bond_parts
returns-else-count-eq2 c =
    let if1 = c.if-bond-eq1 in
    let a = c.args in
    let h = narrow-if _ 1 _ c.requires.count_value.0 (eq-eqb _ _ if1.true) in
    let e₁ = rw (
      c.bond_header.ensures,
      c.less_one.ensures,
    )
    at c.put.ensures in
    let e₂ = rw c.be_bytes.ensures at c.copy.ensures in
    let n = one-bond a.count h c.if-count-eq2.false in
    rw (eq-eqb _ _ if1.true, n) (record { place = refl; stored = run _ _ _ _ _ (rw n at e₁) e₂ refl })

pub returns-else-bond-eq1 : goal.returns-else-bond-eq1
unfolding bond_parts stored_from
returns-else-bond-eq1 c = rw (ne_eqb _ _ c.if-bond-eq1.false) (record { place = sym (add-zero _); stored = refl })
