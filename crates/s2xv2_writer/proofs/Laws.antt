-- Laws of the bonds that list B passes, of a part of a list as a run of stores, of the parts one after the other, and of parts of plain numbers.
-- Assumes nothing.
use mathlib.Core.Path.{◌≡◌, refl, sym, ap, ◌∙◌}
use mathlib.Core.List.{List, [], ◌∷◌, ◌++◌, append_assoc}
use mathlib.Core.Bool.{Bool, true, false}
use Prim.Native.Nat.{ℕ, zero, suc, ◌+◌, ◌≤◌, ◌<◌}
use native.Mathlib.Nat.{add-zero}
use native.Mathlib.Omega.{arith}
use lib.ListN.{length, get_or, set, take, drop}
use lib.Seq.{sets, sets-eq}
use native.Mathlib.Numerals.{add-one}
use Rattle.wire.specs.Parts.{Part, ◌⦂◌, bytes_of, sizes}
use Rattle.wire.specs.Store.{stored_from}
use Rattle.wire.proofs.Parts.{Whole, whole_append, bytes_of-append, bytes_of-tail, length-bytes_of, sizes-append}
use Rattle.wire.proofs.Stores.{run}
use Rattle.s2xv2.specs.Table144b as T
use Rattle.wire.specs.Widths.{wide}
use Rattle.s2xv2.specs.ListB.{core_b, scrambling_b, bond_b, superframe_b, list_b}
use Rattle.wire.specs.Count.{less_one}
use Rattle.s2xv2.specs.Encode.{bond_parts, scrambling_parts, plan_parts, core_values, stream_of, scrambling_of, timeslice_of, bond_of, superframe_of, parts_of, encode}
use Rattle.s2xv2.specs.declared.record.S2Xv2SatelliteDeliverySystem.{S2Xv2SatelliteDeliverySystem}
use Rattle.answers.proofs.Tests.{Clear, clear-left, clear-right}
use Rattle.s2xv2.proofs.Whole.{bond-size}
use Rattle.wire.specs.Flags.{and, not}
use Rattle.wire.proofs.Flags.{never}
use Rattle.s2xv2_plain.specs.Input.{is_set, block_in, meant}
use Rattle.s2xv2_plain.proofs.Back.{is-there}
use Rattle.s2xv2_measure.specs.Quick.{Packed}
use Rattle.s2xv2_writer.proofs.Flags.{selected-set, there-scrambling, there-plan}
use Rattle.std.specs.Prelude.{Some}
use Rattle.std.specs.Option.{unwrap_or}
use Rattle.std.specs.Bool.{then_some}

-- ---- a count that list B passes is 1 or 2

pub some-bond : (n : ℕ) → less_one n < 2 → 1 ≤ n
some-bond zero h = absurd (omega arith)
some-bond (suc n) h = omega arith

pub one-bond : (n : ℕ) → less_one n < 2 → (n ≡ 2 → ⊥) → n ≡ 1
one-bond zero h k = absurd (omega arith)
one-bond (suc n) h k = omega (arith, k)

pub bond-room : (r n : ℕ) (ids : List ℕ) → less_one n < 2 → 5 ≤ sizes (bond_parts true r n ids)
bond-room r n ids h = omega (arith, bond-size true r n ids, some-bond n h)

-- ---- stores

stored-sets : (l : List ℕ) (p : ℕ) (t : List ℕ) → stored_from l p t ≡ sets l p t
unfolding stored_from
stored-sets l p [] = refl
stored-sets l p (v ∷ t) = ap (λ (k : ℕ). stored_from (set l p v) k t) (add-one p) ∙ stored-sets (set l p v) (suc p) t

-- a part of a list that is written at once is a run of stores
pub stored-part : (l : List ℕ) (p : ℕ) (t : List ℕ) → p + length t ≤ length l → take p l ++ (t ++ drop (p + length t) l) ≡ stored_from l p t
stored-part l p t h = sym (stored-sets l p t ∙ sets-eq t l p h ∙ append_assoc (take p l) t (drop (p + length t) l))

-- ---- parts one after the other

abbrev pub alone : List Part → List ℕ
alone ps = bytes_of ps []

pub length-alone : (ps : List Part) → Whole ps → length (alone ps) ≡ sizes ps
length-alone ps w = length-bytes_of ps [] w ∙ add-zero (sizes ps)

pub alone-append : (ps qs : List Part) → alone (ps ++ qs) ≡ alone ps ++ alone qs
alone-append ps qs = bytes_of-append ps qs [] ∙ bytes_of-tail ps (alone qs)

-- a buffer in which parts stand from the start on, and the place behind them
pub record Stored (b₀ b : List ℕ) (p : ℕ) (ps : List Part) : Type 0 where
  pub bytes : b ≡ stored_from b₀ 0 (alone ps)
  pub place : p ≡ sizes ps
  pub whole : Whole ps
  pub kept : length b ≡ length b₀

-- .. and the parts that are stored next
pub store : {b₀ b b' : List ℕ} {p q : ℕ} (ps qs : List Part) → Stored b₀ b p ps → Whole qs → q ≡ p + sizes qs → b' ≡ stored_from b p (alone qs)
    → length b' ≡ length b → Stored b₀ b' q (ps ++ qs)
store {b₀ = b₀} {p = p} ps qs s w n e k = record {
  bytes = run b₀ 0 (alone ps) p (alone qs) s.bytes e (omega (arith, s.place, length-alone ps s.whole)) ∙ ap (stored_from b₀ 0) (sym (alone-append ps qs));
  place = omega (arith, s.place, n, sizes-append ps qs);
  whole = whole_append ps qs s.whole w;
  kept = k ∙ s.kept;
}

-- the parts of a record after its core, up to each
abbrev pub to_scrambling : S2Xv2SatelliteDeliverySystem → List Part
to_scrambling r = stream_of r ++ scrambling_of r

abbrev pub to_timeslice : S2Xv2SatelliteDeliverySystem → List Part
to_timeslice r = to_scrambling r ++ timeslice_of r

abbrev pub to_bonds : S2Xv2SatelliteDeliverySystem → List Part
to_bonds r = to_timeslice r ++ bond_of r

abbrev pub to_superframe : S2Xv2SatelliteDeliverySystem → List Part
to_superframe r = to_bonds r ++ superframe_of r

-- all parts, and then the tail, are the encoding
pub store_tail : {b₀ b b' : List ℕ} {p : ℕ} (r : S2Xv2SatelliteDeliverySystem) (t : List ℕ) → Stored b₀ b p (T.core ⦂ core_values r ∷ to_superframe r)
    → b' ≡ stored_from b p t → b' ≡ stored_from b₀ 0 (encode r t)
unfolding encode parts_of
store_tail {b₀ = b₀} r t s e =
    go (T.core ⦂ core_values r ∷ to_superframe r) s e
    ∙ ap (λ (qs : List Part). stored_from b₀ 0 (bytes_of (T.core ⦂ core_values r ∷ qs) t)) (regroup (stream_of r) (scrambling_of r) (timeslice_of r) (bond_of r) (superframe_of r))
  where
    go : {b₀ b b' : List ℕ} {p : ℕ} (ps : List Part) → Stored b₀ b p ps → b' ≡ stored_from b p t → b' ≡ stored_from b₀ 0 (bytes_of ps t)
    go {b₀ = b₀} {p = p} ps s e = run b₀ 0 (alone ps) p t s.bytes e (omega (arith, s.place, length-alone ps s.whole)) ∙ ap (stored_from b₀ 0) (sym (bytes_of-tail ps t))

    regroup : (a b c d e : List Part) → (((a ++ b) ++ c) ++ d) ++ e ≡ a ++ (b ++ (c ++ (d ++ e)))
    regroup a b c d e = simp append_assoc

-- a list B of which no test holds, part by part
pub clear-parts : (r : S2Xv2SatelliteDeliverySystem) → Clear (list_b r) → Clear (core_b r) × Clear (scrambling_b r) × Clear (bond_b r) × Clear (superframe_b r.superframe)
clear-parts r h =
    let a = clear-right (core_b r) (scrambling_b r ++ (bond_b r ++ superframe_b r.superframe)) h in
    let b = clear-right (scrambling_b r) (bond_b r ++ superframe_b r.superframe) a in (
      clear-left (core_b r) (scrambling_b r ++ (bond_b r ++ superframe_b r.superframe)) h,
      clear-left (scrambling_b r) (bond_b r ++ superframe_b r.superframe) a,
      clear-left (bond_b r) (superframe_b r.superframe) b,
      clear-right (bond_b r) (superframe_b r.superframe) b,
    )

-- ---- parts of plain numbers

module _ (ws bs : List ℕ) (k : Packed bs) (b : Clear (scrambling_b (meant ws bs))) where
  abbrev asked : Bool
  asked = is_set (get_or bs 1 0)

  abbrev there : Bool
  there = is_set (get_or bs 5 0)

  asked-same : unwrap_or (then_some (is_set (get_or bs 9 0)) asked) false ≡ asked
  asked-same = selected-set (get_or bs 9 0) (get_or bs 1 0) k.asked

  there-asked : and asked (not there) ≡ false
  there-asked = rw (asked-same, is-there there (get_or ws 4 0)) at b.0

  -- the index is there where its selector asks for it
  pub scrambling-same : scrambling_parts (is_set (get_or bs 1 0)) (get_or bs 26 0) (Some (get_or ws 4 0)) ≡ scrambling_of (meant ws bs)
  scrambling-same = rw asked-same (sym (there-scrambling asked there (get_or bs 26 0) (get_or ws 4 0) there-asked))

  -- and it is within its width
  pub scrambling-narrow : (and (is_set (get_or bs 1 0)) (wide 18 (get_or ws 4 0)) ≡ false) × (and (is_set (get_or bs 1 0)) (wide 6 (get_or bs 26 0)) ≡ false)
  scrambling-narrow = (there-narrow asked there (get_or ws 4 0) there-asked (rw asked-same at b.1.0), rw asked-same at b.1.1.0)
    where
      there-narrow : (a t : Bool) (v : ℕ) → and a (not t) ≡ false → and a (wide 18 (unwrap_or (then_some t v) 0)) ≡ false → and a (wide 18 v) ≡ false
      there-narrow true true v h k = k
      there-narrow true false v h k = never (sym h)
      there-narrow false t v h k = refl

module _ (ws bs : List ℕ) (b : Clear (superframe_b (Some (block_in ws bs)))) where
  -- the plan id is there where its selector asks for it
  pub plan-same : plan_parts (is_set (get_or bs 3 0)) (then_some (is_set (get_or bs 7 0)) (get_or ws 9 0)) ≡ plan_parts (is_set (get_or bs 3 0)) (Some (get_or ws 9 0))
  plan-same = there-plan (is_set (get_or bs 3 0)) (is_set (get_or bs 7 0)) (get_or ws 9 0) (rw (is-there (is_set (get_or bs 7 0)) (get_or ws 9 0)) at b.1.1.1.1.1.0)
