-- Laws of what is answered once the length is known: a place that a list gives is not 0 (`placed`, `placed-none`); a tail counts as at most 65,535 bytes, and is told the same (`capped_same`); the writer refuses for
-- room (`judged-room`), for list B (`judged-field`), or accepts (`judged-written`); a record that list A passes is measured (`ready-length`), and one that
-- both pass is written (`ready`).
-- Assumes nothing.
use mathlib.Core.Path.{◌≡◌, refl, sym, ap, ◌∙◌}
use mathlib.Core.List.{List, [], ◌∷◌}
use mathlib.Core.Bool.{Bool, true, false}
use Prim.Native.Nat.{ℕ, zero, suc, ◌+◌, ◌≤◌, ◌<◌, min}
use native.Mathlib.Omega.{arith}
use lib.Dec.{ltb}
use borrow.Author.Tests.{ltb-true, ltb-false, ne_eqb}
use Rattle.answers.specs.Answer.{saturated}
use Rattle.s2xv2.specs.Encode.{encoded_length}
use Rattle.s2xv2.specs.Length.{length_told}
use Rattle.s2xv2.specs.Write.{write_told}
use Rattle.s2xv2.specs.ListA.{inconsistency, list_a}
use Rattle.s2xv2.specs.ListB.{list_b, unwritable}
use Rattle.s2xv2.specs.declared.record.S2Xv2SatelliteDeliverySystem.{S2Xv2SatelliteDeliverySystem}
use Rattle.answers.specs.Tests.{place_in}
use Rattle.answers.proofs.Tests.{Clear, clear_first}
use Rattle.std.specs.Prelude.{Some, None}
use Rattle.s2xv2.proofs.Written.{Writable, measured, accepted-length, told-room, told-field, told-written}

-- a place is there where it is not 0
pub placed : (n p : ℕ) → place_in n ≡ Some p → (p ≡ n) × (0 < n)
placed zero p e = cc
placed (suc n) p e = let k = rw (ne_eqb (suc n) 0 (λ d. omega arith)) at e in (cc, omega arith)

pub placed-none : (n : ℕ) → place_in n ≡ None → n ≡ 0
placed-none zero e = refl
placed-none (suc n) e = let k = rw (ne_eqb (suc n) 0 (λ d. omega arith)) at e in cc

-- a tail counts as at most 65,535 bytes: its length is told the same
pub capped_same : (p t : ℕ) → saturated (p + min t 65535) ≡ saturated (p + t)
capped_same p t = go (ltb 65535 t) refl
  where
    long : (n : ℕ) → 65535 ≤ n → saturated n ≡ 65535
    long n h = pick (ltb 65535 n) refl
      where
        pick : (c : Bool) → ltb 65535 n ≡ c → saturated n ≡ 65535
        pick true e = rw e
        pick false e = let k = ltb-false 65535 n e in rw e (omega arith)

    go : (c : Bool) → ltb 65535 t ≡ c → saturated (p + min t 65535) ≡ saturated (p + t)
    go true e = let h = ltb-true 65535 t e in long (p + min t 65535) (omega arith) ∙ sym (long (p + t) (omega arith))
    go false e = let h = ltb-false 65535 t e in ap (λ (k : ℕ). saturated (p + k)) (omega arith)

module _ (r : S2Xv2SatelliteDeliverySystem) (tail : List ℕ) (n room : ℕ) where
  module _ (e : 0 ∷ n ∷ [] ≡ length_told r tail) where
    pub judged-room : room < n → 5 ∷ n ∷ room ∷ [] ≡ write_told r tail room
    judged-room h =
        let m = measured r tail n e in
        sym (rw m.size at (told-room r tail m.consistent (omega arith) room (omega arith)))

    pub judged-field : n ≤ room → (w : ℕ) → w ≡ unwritable r → 0 < w → 4 ∷ w ∷ [] ≡ write_told r tail room
    judged-field h w u k =
        let m = measured r tail n e in
        sym (rw (← u) at (told-field r tail m.consistent (omega arith) room (omega arith) (omega arith)))

    pub judged-written : n ≤ room → unwritable r ≡ 0 → 0 ∷ n ∷ [] ≡ write_told r tail room
    judged-written h u =
        let m = measured r tail n e in
        sym (rw m.size at (told-written r tail m.consistent (omega arith) room (omega arith) u))

  -- a record that list A passes is measured, and one that both pass is written
  pub ready-length : Clear (list_a r) → n ≡ encoded_length r tail → n ≤ 4096 → 0 ∷ n ∷ [] ≡ length_told r tail
  unfolding inconsistency
  ready-length k s h = ap (λ (n : ℕ). 0 ∷ n ∷ []) s ∙ sym (accepted-length r tail (clear_first 1 (list_a r) k) (omega arith))

  pub ready : Clear (list_a r) × Clear (list_b r) → (encoded_length r tail ≤ 4096) × (encoded_length r tail ≤ room) → Writable r tail room
  unfolding inconsistency unwritable
  ready k h = record { consistent = clear_first 1 (list_a r) k.0; within = h.0; fits = h.1; carried = clear_first 1 (list_b r) k.1 }
