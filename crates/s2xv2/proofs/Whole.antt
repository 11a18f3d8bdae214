-- Every part of a record fills whole bytes, so the encoding is as long as the sum of its parts' widths and the tail.
-- Assumes nothing.
use mathlib.Core.Path.{◌≡◌, refl, ap}
use mathlib.Core.List.{List, [], ◌∷◌, ◌++◌}
use mathlib.Core.Bool.{Bool, true, false}
use Prim.Native.Nat.{ℕ, zero, suc, ◌+◌, ◌*◌}
use native.Mathlib.Omega.{arith}
use lib.ListN.{length}
use lib.Dec.{eqb}
use Rattle.wire.specs.Parts.{sizes}
use Rattle.wire.proofs.Parts.{Whole, whole_append, sizes-append, length-bytes_of}
use Rattle.wire.specs.Flags.{only}
use Rattle.s2xv2.specs.Encode.{byte_parts, scrambling_parts, id_parts, bond_parts, plan_parts, superframe_parts, stream_of, scrambling_of, timeslice_of, bond_of, superframe_of, parts_of, encode, encoded_length}
use Rattle.s2xv2.specs.declared.record.S2Xv2SatelliteDeliverySystem.{S2Xv2SatelliteDeliverySystem}
use Rattle.std.specs.Prelude.{None, Option, Some, is_some}
use Rattle.std.specs.Option.{unwrap_or}
use Rattle.s2xv2.specs.declared.superframe.S2Xv2Superframe.{S2Xv2Superframe}

pub whole-byte : (v : Option ℕ) → Whole (byte_parts (8 ∷ []) v)
unfolding Whole byte_parts
whole-byte (Some v) = (refl, tt)
whole-byte None = tt

pub whole-scrambling : (t : Bool) (r : ℕ) (i : Option ℕ) → Whole (scrambling_parts t r i)
unfolding Whole scrambling_parts
whole-scrambling true r i = (refl, tt)
whole-scrambling false r i = tt

whole-ids : (i n : ℕ) (ids : List ℕ) → Whole (id_parts i n ids)
unfolding Whole
whole-ids i zero ids = tt
whole-ids i (suc n) ids = (refl, whole-ids (suc i) n ids)

pub whole-bond : (t : Bool) (r n : ℕ) (ids : List ℕ) → Whole (bond_parts t r n ids)
unfolding Whole bond_parts
whole-bond true r n ids = (refl, whole-ids 0 n ids)
whole-bond false r n ids = tt

pub whole-plan : (t : Bool) (v : Option ℕ) → Whole (plan_parts t v)
unfolding Whole
whole-plan true v = (refl, tt)
whole-plan false v = tt

pub whole-superframe : (f : Option S2Xv2Superframe) → Whole (superframe_parts f)
unfolding Whole superframe_parts
whole-superframe (Some f) = (refl, whole_append (plan_parts f.beam_hopping_time_plan_selector f.beamhopping_time_plan_id) _ (whole-plan f.beam_hopping_time_plan_selector f.beamhopping_time_plan_id) (refl, tt))
whole-superframe None = tt

whole-rest : (r : S2Xv2SatelliteDeliverySystem) → Whole (stream_of r ++ (scrambling_of r ++ (timeslice_of r ++ (bond_of r ++ superframe_of r))))
whole-rest r =
    whole_append (stream_of r) _ (whole-byte _)
    (whole_append (scrambling_of r) _ (whole-scrambling _ _ _)
    (whole_append (timeslice_of r) _ (whole-byte _) (whole_append (bond_of r) (superframe_of r) (whole-bond _ _ _ _) (whole-superframe _))))

pub whole_parts : (r : S2Xv2SatelliteDeliverySystem) → Whole (parts_of r)
unfolding Whole parts_of
whole_parts r = (refl, whole-rest r)

-- The encoding is as long as `encoded_length` says.
pub encode-length : (r : S2Xv2SatelliteDeliverySystem) (tail : List ℕ) → length (encode r tail) ≡ encoded_length r tail
unfolding encode encoded_length
encode-length r tail = length-bytes_of (parts_of r) tail (whole_parts r)

-- ---- the sizes of the parts

pub byte-size : (v : Option ℕ) → only (is_some v) 1 ≡ sizes (byte_parts (8 ∷ []) v)
unfolding byte_parts
byte-size (Some v) = refl
byte-size None = refl

pub scrambling-size : (t : Bool) (r : ℕ) (i : Option ℕ) → only t 3 ≡ sizes (scrambling_parts t r i)
unfolding scrambling_parts
scrambling-size true r i = refl
scrambling-size false r i = refl

ids-size : (i n : ℕ) (ids : List ℕ) → 4 * n ≡ sizes (id_parts i n ids)
ids-size i zero ids = refl
ids-size i (suc n) ids = let e = ids-size (suc i) n ids in omega arith

pub bond-size : (t : Bool) (r n : ℕ) (ids : List ℕ) → only t (1 + 4 * n) ≡ sizes (bond_parts t r n ids)
unfolding bond_parts
bond-size true r n ids = ap (λ (k : ℕ). 1 + k) (ids-size 0 n ids)
bond-size false r n ids = refl

-- the size of all parts is the sum of the sizes of each
pub parts-split : (r : S2Xv2SatelliteDeliverySystem)
    → sizes (parts_of r) ≡ 18 + sizes (stream_of r) + sizes (scrambling_of r) + sizes (timeslice_of r) + sizes (bond_of r) + sizes (superframe_of r)
unfolding parts_of
parts-split r =
    omega (
      arith,
      sizes-append (stream_of r) (scrambling_of r ++ (timeslice_of r ++ (bond_of r ++ superframe_of r))),
      sizes-append (scrambling_of r) (timeslice_of r ++ (bond_of r ++ superframe_of r)),
      sizes-append (timeslice_of r) (bond_of r ++ superframe_of r),
      sizes-append (bond_of r) (superframe_of r),
    )

-- What is counted for each part: one byte for the stream id and the timeslice, 3 for the index, 1 + 4 × count for the bonds.
pub parts-size : (r : S2Xv2SatelliteDeliverySystem)
    → sizes (parts_of r)
    ≡ 18 + only (is_some r.input_stream_identifier) 1 + only (unwrap_or r.scrambling_sequence_selector false) 3 + only (is_some r.timeslice_number) 1
    + only (eqb r.channel_bond 1) (1 + 4 * r.num_channel_bonds) + sizes (superframe_of r)
parts-size r =
    omega (
      arith,
      parts-split r,
      byte-size r.input_stream_identifier,
      scrambling-size (unwrap_or r.scrambling_sequence_selector false) r.reserved_zero_future_use_6 r.scrambling_sequence_index,
      byte-size r.timeslice_number,
      bond-size (eqb r.channel_bond 1) r.reserved_zero_future_use_7 r.num_channel_bonds r.secondary_delivery_system_ids,
    )
