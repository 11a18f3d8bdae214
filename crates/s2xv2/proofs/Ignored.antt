-- What the wire does not carry of a record, nobody looks at: the answers of length and writer and the bytes written are those for what it carries (`carried`),
-- of every record, refused or not. Each test of lists A and B, and each part's size, is the same of both.
-- Assumes nothing.
use mathlib.Core.Path.{◌≡◌, refl, ap, ap₂}
use mathlib.Core.List.{List, [], ◌∷◌, ◌++◌}
use mathlib.Core.Bool.{Bool, true, false}
use Prim.Native.Nat.{ℕ, zero, suc}
use native.Mathlib.Omega.{arith}
use lib.ListN.{length, drop}
use lib.Dec.{eqb}
use borrow.Author.Tests.{eqb-true}
use Rattle.wire.specs.Flags.{when, and, not, only}
use Rattle.wire.specs.Parts.{Part, ◌⦂◌, sizes, bytes_of}
use Rattle.s2xv2.specs.Table144b as T
use Rattle.answers.specs.Answer.{number_of}
use Rattle.s2xv2.specs.Encode.{top_bit, nibble_of, id_parts, scrambling_parts, bond_parts, superframe_parts, parts_of, encode, encoded_length}
use Rattle.wire.specs.Count.{less_one}
use Rattle.answers.specs.Tests.{first_from}
use Rattle.s2xv2.specs.ListA.{parts_a, superframe_a, inconsistency}
use Rattle.wire.specs.Widths.{wide}
use Rattle.s2xv2.specs.ListB.{core_b, scrambling_b, bond_b, superframe_b, list_b, unwritable}
use Rattle.s2xv2.specs.Length.{length_told}
use Rattle.s2xv2.specs.Write.{write_told, written}
use Rattle.s2xv2.specs.Carried.{carried_id, carried_superframe, carried}
use Rattle.answers.proofs.Tests.{first-clear}
use Rattle.wire.proofs.Wide.{narrow}
use Rattle.s2xv2.proofs.Whole.{parts-size}
use Rattle.s2xv2.proofs.Written.{accepted-writable}
use Rattle.s2xv2.specs.declared.record.S2Xv2SatelliteDeliverySystem.{S2Xv2SatelliteDeliverySystem}
use Rattle.std.specs.Prelude.{None, Option, Some, is_some}
use Rattle.std.specs.Option.{unwrap_or}
use Rattle.s2xv2.specs.declared.superframe.S2Xv2Superframe.{S2Xv2Superframe}

-- ---- a value that is not looked at

-- reserved_1 behind a selector, in list B and in byte 6
top-judged : (o : Option Bool) (v : ℕ) → and (not (is_some o)) (wide 1 (when (is_some o) 0 v)) ≡ and (not (is_some o)) (wide 1 v)
top-judged (Some b) v = refl
top-judged None v = refl

top-written : (o : Option Bool) (v : ℕ) → top_bit o (when (is_some o) 0 v) ≡ top_bit o v
top-written (Some b) v = refl
top-written None v = refl

-- reserved_6 and reserved_7 without the part that they stand in
behind : (there : Bool) (w v : ℕ) → and there (wide w (only there v)) ≡ and there (wide w v)
behind true w v = refl
behind false w v = refl

-- reserved_4 behind SFFI
nibble : (selector : Bool) (o : Option ℕ) (v : ℕ) → nibble_of selector o (when selector 0 v) ≡ nibble_of selector o v
nibble true o v = refl
nibble false o v = refl

-- ---- the lists

superframe-a : (o : Option S2Xv2Superframe) → superframe_a (carried_superframe o) ≡ superframe_a o
superframe-a (Some f) = refl
superframe-a None = refl

superframe-b : (o : Option S2Xv2Superframe) → superframe_b (carried_superframe o) ≡ superframe_b o
superframe-b (Some f) = rw (nibble f.sffi_selector f.sffi f.reserved_zero_future_use_4)
superframe-b None = refl

superframe-parts : (o : Option S2Xv2Superframe) → superframe_parts (carried_superframe o) ≡ superframe_parts o
unfolding superframe_parts
superframe-parts (Some f) = rw (nibble f.sffi_selector f.sffi f.reserved_zero_future_use_4)
superframe-parts None = refl

-- ---- the parts

scrambling-parts : (there : Bool) (v : ℕ) (o : Option ℕ) → scrambling_parts there (only there v) o ≡ scrambling_parts there v o
unfolding scrambling_parts
scrambling-parts true v o = refl
scrambling-parts false v o = refl

-- an id beyond the count, where the count is one that list B passes
carried-ids : (n : ℕ) (ids : List ℕ) → wide 1 (less_one n) ≡ false → id_parts 0 n (carried_id 0 n ids ∷ carried_id 1 n ids ∷ []) ≡ id_parts 0 n ids
carried-ids zero ids e = absurd (omega (arith, narrow 1 255 e))
carried-ids (suc zero) ids e = refl
carried-ids (suc (suc zero)) ids e = refl
carried-ids (suc (suc (suc n))) ids e = absurd (omega (arith, narrow 1 (suc (suc n)) e))

bond-parts : (there : Bool) (v n : ℕ) (ids : List ℕ) → and there (wide 1 (less_one n)) ≡ false
    → bond_parts there (only there v) n (carried_id 0 n ids ∷ carried_id 1 n ids ∷ []) ≡ bond_parts there v n ids
unfolding bond_parts
bond-parts true v n ids e = ap (λ (ps : List Part). T.bond_header ⦂ (v ∷ less_one n ∷ []) ∷ ps) (carried-ids n ids e)
bond-parts false v n ids e = refl

module _ (r : S2Xv2SatelliteDeliverySystem) where
  parts-a : parts_a (carried r) ≡ parts_a r
  unfolding carried
  parts-a = go r.superframe refl
    where
      go : (o : Option S2Xv2Superframe) → r.superframe ≡ o → parts_a (carried r) ≡ parts_a r
      go (Some f) e = simp e
      go None e = simp e

  pub same-inconsistency : inconsistency (carried r) ≡ inconsistency r
  unfolding inconsistency carried
  same-inconsistency = ap₂ (λ (a b : List Bool). first_from 1 (a ++ b)) parts-a (superframe-a r.superframe)

  pub same-unwritable : unwritable (carried r) ≡ unwritable r
  unfolding unwritable carried
  same-unwritable =
      rw (
        top-judged r.scrambling_sequence_selector r.reserved_zero_future_use_1,
        behind (unwrap_or r.scrambling_sequence_selector false) 6 r.reserved_zero_future_use_6,
        behind (eqb r.channel_bond 1) 7 r.reserved_zero_future_use_7,
      )
      (ap (λ (bs : List Bool). first_from 1 (core_b r ++ (scrambling_b r ++ (bond_b r ++ bs)))) (superframe-b r.superframe))

  -- ---- the length

  pub same_length : (tail : List ℕ) → encoded_length (carried r) tail ≡ encoded_length r tail
  unfolding encoded_length carried
  same_length tail = omega (arith, parts-size (carried r), parts-size r, ap sizes (superframe-parts r.superframe))

  -- Length and writer answer for a record what they answer for what the wire carries of it.
  pub ignored-length : (tail : List ℕ) → length_told (carried r) tail ≡ length_told r tail
  unfolding length_told
  ignored-length tail = rw (same-inconsistency, same_length tail)

  pub ignored-answer : (tail : List ℕ) (room : ℕ) → write_told (carried r) tail room ≡ write_told r tail room
  unfolding write_told
  ignored-answer tail room = rw (same-inconsistency, same_length tail, same-unwritable)

  -- ---- the bytes

  same_parts : unwritable r ≡ 0 → parts_of (carried r) ≡ parts_of r
  unfolding parts_of carried unwritable
  same_parts b =
      let few = (first-clear 0 (list_b r) b).1.1.1.1.1.1.1.1.1.1.1.1.0 in
      rw (
        top-written r.scrambling_sequence_selector r.reserved_zero_future_use_1,
        scrambling-parts (unwrap_or r.scrambling_sequence_selector false) r.reserved_zero_future_use_6 r.scrambling_sequence_index,
        bond-parts (eqb r.channel_bond 1) r.reserved_zero_future_use_7 r.num_channel_bonds r.secondary_delivery_system_ids few,
        superframe-parts r.superframe,
      )

  pub same-encode : (tail : List ℕ) → unwritable r ≡ 0 → encode (carried r) tail ≡ encode r tail
  unfolding encode
  same-encode tail b = ap (λ (ps : List Part). bytes_of ps tail) (same_parts b)

  -- .. and the writer leaves the same buffer.
  pub ignored-written : (tail buf : List ℕ) → written (carried r) tail buf ≡ written r tail buf
  unfolding written
  ignored-written tail buf = rw (ignored-answer tail (length buf), same_length tail) (go (eqb (number_of (write_told r tail (length buf))) 0) refl)
    where
      rest : List ℕ
      rest = drop (encoded_length r tail) buf

      go : (c : Bool) → eqb (number_of (write_told r tail (length buf))) 0 ≡ c → when c (encode (carried r) tail ++ rest) buf ≡ when c (encode r tail ++ rest) buf
      go true e = ap (λ (bs : List ℕ). bs ++ rest) (same-encode tail (accepted-writable r tail (length buf) (eqb-true _ _ e)).carried)
      go false e = refl
