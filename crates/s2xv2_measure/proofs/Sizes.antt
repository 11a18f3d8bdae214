-- Laws of sizes: the superframe block counts as many bytes as its flags say (`block_size`);
-- a record with at most two bonds has at most 44 bytes without its tail (`most`);
-- the flags of a record made plain are bits (`counted_of`).
-- Assumes nothing.
use mathlib.Core.Path.{◌≡◌, refl, sym}
use mathlib.Core.Bool.{Bool, true, false}
use mathlib.Core.List.{List, [], ◌∷◌, ◌++◌}
use Prim.Native.Nat.{ℕ, zero, suc, ◌+◌, ◌*◌, ◌<◌, ◌≤◌}
use native.Mathlib.Omega.{arith}
use lib.ListN.{get_or}
use lib.Dec.{eqb}
use borrow.Author.Tests.{eqb-true}
use Rattle.wire.specs.Flags.{and, only}
use Rattle.wire.specs.Parts.{◌⦂◌, sizes}
use Rattle.s2xv2.specs.Table144b.{last_byte}
use Rattle.s2xv2.specs.Encode.{plan_parts, superframe_parts, superframe_end_values, superframe_of, parts_of}
use Rattle.s2xv2.proofs.Whole.{parts-size}
use Rattle.s2xv2_plain.proofs.Back.{is-there}
use Rattle.s2xv2_measure.specs.Quick.{Counted, Fits}
use Rattle.wire.proofs.Flags.{bit-small}
use Rattle.s2xv2_plain.specs.Output.{block_of, bytes_of}
use Rattle.s2xv2.specs.declared.record.S2Xv2SatelliteDeliverySystem.{S2Xv2SatelliteDeliverySystem}
use Rattle.s2xv2.specs.declared.superframe.S2Xv2Superframe.{S2Xv2Superframe}
use Rattle.s2xv2_plain.specs.Input.{is_set, block_in, meant}
use Rattle.std.specs.Prelude.{Option, is_some}
use Rattle.std.specs.Option.{unwrap_or}
use Rattle.std.specs.Bool.{then_some}
use Rattle.answers.proofs.Options.{is-selected}

block-length : (h : ℕ) (o : Option ℕ) (f : S2Xv2Superframe) → h < 2 → 8 + 4 * h ≡ 7 + sizes (plan_parts (is_set h) o ++ (last_byte ⦂ superframe_end_values f ∷ []))
block-length zero o f k = refl
block-length (suc zero) o f k = refl
block-length (suc (suc n)) o f k = absurd (omega arith)

pub block_size : (ws bs : List ℕ) → get_or bs 3 0 < 2 → only (is_set (get_or bs 11 0)) (8 + 4 * get_or bs 3 0) ≡ sizes (superframe_of (meant ws bs))
unfolding superframe_parts
block_size ws bs h = go (is_set (get_or bs 11 0))
  where
    go : (t : Bool) → only t (8 + 4 * get_or bs 3 0) ≡ sizes (superframe_parts (then_some t (block_in ws bs)))
    go true = block-length (get_or bs 3 0) (then_some (is_set (get_or bs 7 0)) (get_or ws 9 0)) (block_in ws bs) h
    go false = refl

at_most : (t : Bool) (n : ℕ) → only t n ≤ n
at_most true n = omega arith
at_most false n = omega arith

bonds-most : (bond count : ℕ) → (bond ≡ 1 → count ≤ 2) → only (eqb bond 1) (1 + 4 * count) ≤ 9
bonds-most bond count few = go (eqb bond 1) refl
  where
    go : (t : Bool) → eqb bond 1 ≡ t → only t (1 + 4 * count) ≤ 9
    go true e = omega (arith, few (eqb-true bond 1 e))
    go false e = omega arith

pub most : (ws bs : List ℕ) → Fits bs → sizes (parts_of (meant ws bs)) ≤ 44
most ws bs f =
    let p = f.counted.plan in
    omega (
      arith,
      simp (is-there, is-selected) at (parts-size (meant ws bs)),
      sym (block_size ws bs p),
      at_most (is_set (get_or bs 4 0)) 1,
      at_most (and (is_set (get_or bs 9 0)) (is_set (get_or bs 1 0))) 3,
      at_most (is_set (get_or bs 10 0)) 1,
      bonds-most (get_or bs 15 0) (get_or bs 22 0) f.few,
      at_most (is_set (get_or bs 11 0)) (8 + 4 * get_or bs 3 0),
    )

pub counted_of : (r : S2Xv2SatelliteDeliverySystem) → Counted (bytes_of r)
counted_of r = record {
  selector = bit-small (unwrap_or r.scrambling_sequence_selector false);
  plan = bit-small (block_of r.superframe).beam_hopping_time_plan_selector;
  has_stream = bit-small (is_some r.input_stream_identifier);
  has_selector = bit-small (is_some r.scrambling_sequence_selector);
  has_timeslice = bit-small (is_some r.timeslice_number);
}
