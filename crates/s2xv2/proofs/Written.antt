-- Laws of the writer's answer and of the buffer that it leaves: in which order a record is refused, and that it is refused by nothing else.
-- Assumes nothing.
use mathlib.Core.Path.{◌≡◌, refl, sym, ap, ◌∙◌}
use mathlib.Core.List.{List, [], ◌∷◌, ◌++◌}
use mathlib.Core.Bool.{Bool, true, false}
use Prim.Native.Nat.{ℕ, ◌≤◌, ◌<◌}
use native.Mathlib.Omega.{arith}
use lib.ListN.{length, get_or, drop}
use lib.Dec.{ltb}
use borrow.Author.Tests.{lt-ltb, le-ltb, ltb-true, ltb-false}
use Rattle.answers.specs.Answer.{numbers, saturated, number_of}
use Rattle.s2xv2.specs.Encode.{encode, encoded_length}
use Rattle.s2xv2.specs.ListA.{inconsistency}
use Rattle.s2xv2.specs.ListB.{unwritable}
use Rattle.s2xv2.specs.Length.{length_told}
use Rattle.s2xv2.specs.Write.{write_told, written}
use Rattle.s2xv2.specs.declared.record.S2Xv2SatelliteDeliverySystem.{S2Xv2SatelliteDeliverySystem}
use Rattle.answers.specs.declared.answer.Refusal.{Refusal}
use Rattle.answers.proofs.Answers.{refused-number}

module _ (r : S2Xv2SatelliteDeliverySystem) (tail : List ℕ) where
  -- ---- the length

  -- the two refusals, and what is told where neither is given
  inconsistent-length : 0 < inconsistency r → length_told r tail ≡ 3 ∷ inconsistency r ∷ []
  unfolding length_told
  inconsistent-length h = simp (lt-ltb _ _ h)

  long-length : inconsistency r ≡ 0 → 4096 < encoded_length r tail → length_told r tail ≡ 2 ∷ saturated (encoded_length r tail) ∷ []
  unfolding length_told
  long-length a h = simp (a, lt-ltb _ _ h)

  pub accepted-length : inconsistency r ≡ 0 → encoded_length r tail ≤ 4096 → length_told r tail ≡ 0 ∷ encoded_length r tail ∷ []
  unfolding length_told
  accepted-length a h = simp (a, le-ltb _ _ h)

  -- the record that has a length, and the length
  pub record Measured (n : ℕ) : Type 0 where
    pub consistent : inconsistency r ≡ 0
    pub size : encoded_length r tail ≡ n
    pub within : n ≤ 4096

  pub measured : (n : ℕ) → 0 ∷ n ∷ [] ≡ length_told r tail → Measured n
  measured n e = first (ltb 0 (inconsistency r)) refl
    where
      second : inconsistency r ≡ 0 → (c : Bool) → ltb 4096 (encoded_length r tail) ≡ c → Measured n
      second a true d = let z : ◌≡◌ {A = ℕ} 0 2 = ap number_of (e ∙ long-length a (ltb-true _ _ d)) in absurd (omega arith)
      second a false d =
          let k : encoded_length r tail ≡ n = ap (λ (l : List ℕ). get_or l 1 0) (sym (accepted-length a (ltb-false _ _ d)) ∙ sym e) in
          record { consistent = a; size = k; within = omega (arith, ltb-false 4096 (encoded_length r tail) d) }

      first : (c : Bool) → ltb 0 (inconsistency r) ≡ c → Measured n
      first true d = let z : ◌≡◌ {A = ℕ} 0 3 = ap number_of (e ∙ inconsistent-length (ltb-true _ _ d)) in absurd (omega arith)
      first false d = second (omega (arith, ltb-false 0 (inconsistency r) d)) (ltb 4096 (encoded_length r tail)) refl

  -- ---- the answer

  -- what the length call refuses, the writer refuses in the same words
  pub refused-alike : (room : ℕ) → (number_of (length_told r tail) ≡ 0 → ⊥) → write_told r tail room ≡ length_told r tail
  unfolding write_told
  refused-alike room f = first (ltb 0 (inconsistency r)) refl
    where
      second : inconsistency r ≡ 0 → (c : Bool) → ltb 4096 (encoded_length r tail) ≡ c → write_told r tail room ≡ length_told r tail
      second a true d = simp (a, d) (sym (long-length a (ltb-true _ _ d)))
      second a false d = absurd (f (ap number_of (accepted-length a (ltb-false _ _ d))))

      first : (c : Bool) → ltb 0 (inconsistency r) ≡ c → write_told r tail room ≡ length_told r tail
      first true d = simp d (sym (inconsistent-length (ltb-true _ _ d)))
      first false d = second (omega (arith, ltb-false 0 (inconsistency r) d)) (ltb 4096 (encoded_length r tail)) refl

  module _ (a : inconsistency r ≡ 0) (n : encoded_length r tail ≤ 4096) where
    -- With room below the length, the writer answers 5.
    pub told-room : (room : ℕ) → room < encoded_length r tail → write_told r tail room ≡ 5 ∷ encoded_length r tail ∷ room ∷ []
    unfolding write_told
    told-room room h = simp (a, le-ltb _ _ n, lt-ltb _ _ h)

    -- With room, it answers 4 with the first place of list B that holds ..
    pub told-field : (room : ℕ) → encoded_length r tail ≤ room → 0 < unwritable r → write_told r tail room ≡ 4 ∷ unwritable r ∷ []
    unfolding write_told
    told-field room h b = simp (a, le-ltb _ _ n, le-ltb _ _ h, lt-ltb _ _ b)

    -- .. and accepts the record if none does.
    pub told-written : (room : ℕ) → encoded_length r tail ≤ room → unwritable r ≡ 0 → write_told r tail room ≡ 0 ∷ encoded_length r tail ∷ []
    unfolding write_told
    told-written room h b = simp (a, le-ltb _ _ n, le-ltb _ _ h, b)

  -- ---- the buffer

  -- A refused record leaves the buffer as it was lent.
  pub written-refused : (buf : List ℕ) (why : Refusal) → numbers why ≡ write_told r tail (length buf) → written r tail buf ≡ buf
  unfolding written
  written-refused buf why e = simp (sym e, refused-number why)

  -- An accepted record stands at its start, and the old bytes behind it.
  pub written-accepted : (buf : List ℕ) (n : ℕ) → 0 ∷ n ∷ [] ≡ write_told r tail (length buf) → written r tail buf ≡ encode r tail ++ drop (encoded_length r tail) buf
  unfolding written
  written-accepted buf n e = simp (sym e)

  -- ---- what the writer accepts

  pub record Writable (room : ℕ) : Type 0 where
    pub consistent : inconsistency r ≡ 0
    pub within : encoded_length r tail ≤ 4096
    pub fits : encoded_length r tail ≤ room
    pub carried : unwritable r ≡ 0

  pub accepted-writable : (room : ℕ) → number_of (write_told r tail room) ≡ 0 → Writable room
  accepted-writable room z = first (ltb 0 (inconsistency r)) refl
    where
      never : (l : List ℕ) → write_told r tail room ≡ l → (number_of l ≡ 0 → ⊥) → Writable room
      never l e f = absurd (f (ap number_of (sym e) ∙ z))

      fourth : (a : inconsistency r ≡ 0) (n : encoded_length r tail ≤ 4096) (h : encoded_length r tail ≤ room) (c : Bool) → ltb 0 (unwritable r) ≡ c → Writable room
      fourth a n h true d = never _ (told-field a n room h (ltb-true _ _ d)) (λ y. omega arith)
      fourth a n h false d = record { consistent = a; within = n; fits = h; carried = omega (arith, ltb-false 0 (unwritable r) d) }

      third : (a : inconsistency r ≡ 0) (n : encoded_length r tail ≤ 4096) (c : Bool) → ltb room (encoded_length r tail) ≡ c → Writable room
      third a n true d = never _ (told-room a n room (ltb-true _ _ d)) (λ y. omega arith)
      third a n false d = fourth a n (ltb-false _ _ d) (ltb 0 (unwritable r)) refl

      second : inconsistency r ≡ 0 → (c : Bool) → ltb 4096 (encoded_length r tail) ≡ c → Writable room
      second a true d =
          let e = long-length a (ltb-true _ _ d) in
          never _ (refused-alike room (λ y. let k : ◌≡◌ {A = ℕ} 2 0 = ap number_of (sym e) ∙ y in omega arith) ∙ e) (λ y. omega arith)
      second a false d = third a (ltb-false _ _ d) (ltb room (encoded_length r tail)) refl

      first : (c : Bool) → ltb 0 (inconsistency r) ≡ c → Writable room
      first true d =
          let e = inconsistent-length (ltb-true _ _ d) in
          never _ (refused-alike room (λ y. let k : ◌≡◌ {A = ℕ} 3 0 = ap number_of (sym e) ∙ y in omega arith) ∙ e) (λ y. omega arith)
      first false d = second (omega (arith, ltb-false 0 (inconsistency r) d)) (ltb 4096 (encoded_length r tail)) refl
