-- `s2xv2_writer::parts::put_block` meets its contract: three runs of stores that meet are one, and their bytes are those of the parts of the block.
-- Assumes nothing.
use mathlib.Core.Path.{refl, sym, ap, ◌∙◌}
use mathlib.Core.List.{List, [], ◌∷◌, ◌++◌}
use Prim.Native.Nat.{ℕ, ◌+◌, ◌≤◌}
use native.Mathlib.Omega.{arith}
use lib.ListN.{get_or}
use Rattle.wire.specs.Store.{stored_from}
use Rattle.wire.proofs.Stores.{run}
use Rattle.wire.specs.Widths.{pack}
use Rattle.wire.specs.Parts.{Part, ◌⦂◌, sizes}
use Rattle.wire.proofs.Parts.{sizes-append}
use Rattle.s2xv2.specs.Table144b as T
use Rattle.s2xv2.specs.Encode.{superframe_values, plan_parts, superframe_end_values, block_parts}
use Rattle.s2xv2.specs.ListB.{superframe_b}
use Rattle.answers.proofs.Tests.{Clear}
use Rattle.s2xv2_plain.specs.Input.{is_set, block_in}
use Rattle.s2xv2.proofs.Whole.{whole-plan}
use Rattle.s2xv2_writer.proofs.Laws.{length-alone, alone-append, plan-same}
use Rattle.s2xv2_writer.proofs.parts.put_block.Goals as goal
use Rattle.std.specs.Prelude.{Some}

module _ (ws bs : List ℕ) where
  abbrev plan : List Part
  plan = plan_parts (is_set (get_or bs 3 0)) (Some (get_or ws 9 0))

  abbrev last : List Part
  last = T.last_byte ⦂ superframe_end_values (block_in ws bs) ∷ []

  -- where there is room for the block there is room for its seven bytes, the plan id and the last byte
  room : (p : ℕ) {n : ℕ} → Clear (superframe_b (Some (block_in ws bs))) → p + sizes (block_parts (block_in ws bs)) ≤ n → p + 7 + sizes plan + 1 ≤ n
  room p clear h = omega (arith, sizes-append plan last, rw (plan-same ws bs clear) at h)

pub put_plan-q-requires : goal.put_plan-q-requires
put_plan-q-requires c =
    let fits = room c.args.w.now c.args.b.now c.args.p c.requires.packed.1 c.requires.b_in_bounds in
    omega (arith, fits, c.copy.auto.buf)

pub put-requires : goal.put-requires
put-requires c =
    let put-plan = c.put_plan-q in
    let fits = room c.args.w.now c.args.b.now c.args.p c.requires.packed.1 c.requires.b_in_bounds in
    omega (arith, fits, put-plan.auto.buf, c.copy.auto.buf, put-plan.ensures.place)

pub overflow_add-result : goal.overflow_add-result
overflow_add-result c =
    let put-plan = c.put_plan-q in
    let fits = room c.args.w.now c.args.b.now c.args.p c.requires.packed.1 c.requires.b_in_bounds in
    omega (arith, fits, put-plan.ensures.place, c.well_formed)

pub returns : goal.returns
returns c =
    let ws = c.args.w.now in
    let bs = c.args.b.now in
    let e₁ = rw c.block_bytes-block.ensures at c.copy.ensures in
    let e₂ = c.put_plan-q.ensures in
    let e₃ = rw c.last_byte-last.ensures at c.put.ensures in
    let d = length-alone (plan ws bs) (whole-plan (is_set (get_or bs 3 0)) (Some (get_or ws 9 0))) in
    let e = run _ _ _ _ _ e₁ (run _ _ _ _ _ e₂.stored e₃ (omega (arith, e₂.place, d))) refl in
    let first = pack T.superframe (superframe_values (block_in ws bs)) in
    let parts = ap (λ (l : List ℕ). stored_from c.args.buf.now c.args.p (first ++ l)) (sym (alone-append (plan ws bs) (last ws bs))) in
    rw (plan-same ws bs c.requires.packed.1) (record { place = omega (arith, e₂.place, sizes-append (plan ws bs) (last ws bs)); stored = e ∙ parts })
