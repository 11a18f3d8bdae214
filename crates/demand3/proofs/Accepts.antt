-- Begin accepts exactly where demand 3 speaks: each test of its answer is one of the facts of `Ready`.
-- Assumes nothing.
use mathlib.Core.Path.{◌≡◌, refl, ap, ◌∙◌}
use mathlib.Core.List.{List, [], ◌∷◌}
use mathlib.Core.Bool.{Bool, true, false}
use Prim.Native.Nat.{ℕ, ◌+◌, ◌≤◌}
use native.Mathlib.Omega.{arith}
use borrow.Author.Tests.{le-ltb, ltb-false}
use lib.ListN.{length}
use lib.Dec.{ltb}
use Rattle.wire.specs.Flags.{when}
use Rattle.wire.specs.Widths.{Bytes}
use Rattle.s2xv2.specs.declared.record.S2Xv2SatelliteDeliverySystem.{S2Xv2SatelliteDeliverySystem}
use Rattle.answers.specs.Answer.{saturated, number_of}
use Rattle.s2xv2.specs.Held.{Held}
use Rattle.s2xv2.specs.Encode.{encoded_length}
use Rattle.s2xv2.specs.ListA.{inconsistency}
use Rattle.s2xv2.specs.ListB.{unwritable}
use Rattle.s2xv2.specs.Write.{write_told}
use Rattle.form.specs.Form.{good_form}
use Rattle.form.proofs.GoodForm.{form-size}
use Rattle.job.specs.Job.{fits_in}
use Rattle.begin.specs.Begin.{size_of, descriptor_of, new_job, stage_told, fit_told, record_told, begin_told, begin_of}
use Rattle.begin.proofs.Telling.{told-record, accepted-form}
use Rattle.job.proofs.Fairness.{fits-facts}
use Rattle.demand3.specs.Demand3.{Ready}

-- what begin tells where all of its tests pass
pub told-ready : {s : List ℕ} {r : S2Xv2SatelliteDeliverySystem} {tail : List ℕ} → Ready s r tail → begin_told s r tail ≡ 0 ∷ (length s + 2) ∷ []
unfolding record_told fit_told stage_told
told-ready {s} {r} {tail} R =
    let n = form-size s R.form in
    let f = fits-facts (size_of r tail) (length s) R.fits in
    rw (← told-record s r tail R.form, R.consistent, le-ltb 4096 (encoded_length r tail) (omega arith), R.fits, R.writable)

-- .. and that it answers the job
pub begins : {s : List ℕ} {r : S2Xv2SatelliteDeliverySystem} {tail : List ℕ} → Ready s r tail
    → begin_of s r tail ≡ record { told = 0 ∷ (length s + 2) ∷ []; job = new_job (length s) (descriptor_of r tail) }
unfolding begin_of
begins {s} {r} {tail} R = rw (told-ready R)

-- ---- only there: a pick that gives number 0 picked the part that can give it
zero-else : (c : Bool) (a b : List ℕ) → number_of (when c a b) ≡ 0 → (number_of a ≡ 0 → ⊥) → (c ≡ false) × (number_of b ≡ 0)
zero-else true a b e h = absurd (h e)
zero-else false a b e h = (refl, e)

zero-then : (c : Bool) (a b : List ℕ) → number_of (when c a b) ≡ 0 → (number_of b ≡ 0 → ⊥) → (c ≡ true) × (number_of a ≡ 0)
zero-then true a b e h = (refl, e)
zero-then false a b e h = absurd (h e)

module _ (s : List ℕ) (r : S2Xv2SatelliteDeliverySystem) (tail : List ℕ) where
  abbrev told₄ : List ℕ
  told₄ = when (ltb 0 (unwritable r)) (4 ∷ unwritable r ∷ []) (0 ∷ (length s + 2) ∷ [])

  abbrev told₇ : List ℕ
  told₇ = when (fits_in (size_of r tail) (length s)) told₄ (7 ∷ size_of r tail ∷ [])

  abbrev told₂ : List ℕ
  told₂ = when (ltb 4096 (encoded_length r tail)) (2 ∷ saturated (encoded_length r tail) ∷ []) told₇

  -- what is so where begin accepts
  pub record Accepted : Type 0 where
    pub form : good_form s ≡ true
    pub consistent : inconsistency r ≡ 0
    pub writable : unwritable r ≡ 0
    pub fits : fits_in (size_of r tail) (length s) ≡ true

  pub accepted : number_of (begin_told s r tail) ≡ 0 → Accepted
  unfolding record_told fit_told stage_told
  accepted e =
      let f = accepted-form s r tail e in
      let a₃ = zero-else (ltb 0 (inconsistency r)) (3 ∷ inconsistency r ∷ []) told₂ (ap number_of (told-record s r tail f) ∙ e) (λ (z : ◌≡◌ {A = ℕ} 3 0). omega arith) in
      let a₂ = zero-else (ltb 4096 (encoded_length r tail)) (2 ∷ saturated (encoded_length r tail) ∷ []) told₇ a₃.1 (λ (z : ◌≡◌ {A = ℕ} 2 0). omega arith) in
      let a₇ = zero-then (fits_in (size_of r tail) (length s)) told₄ (7 ∷ size_of r tail ∷ []) a₂.1 (λ (z : ◌≡◌ {A = ℕ} 7 0). omega arith) in
      let a₄ = zero-else (ltb 0 (unwritable r)) (4 ∷ unwritable r ∷ []) (0 ∷ (length s + 2) ∷ []) a₇.1 (λ (z : ◌≡◌ {A = ℕ} 4 0). omega arith) in
      let i : inconsistency r ≤ 0 = ltb-false 0 (inconsistency r) a₃.0 in
      let w : unwritable r ≤ 0 = ltb-false 0 (unwritable r) a₄.0 in
      record { form = f; consistent = omega arith; writable = omega arith; fits = a₇.0 }

  -- Where begin accepts a record, with what the types say of it and of its tail, demand 3 speaks.
  pub ready : Held r → Bytes tail → number_of (begin_told s r tail) ≡ 0 → Ready s r tail
  ready h b e =
      let a = accepted e in
      record { form = a.form; consistent = a.consistent; writable = a.writable; fits = a.fits; held = h; bytes = b }

  -- Where the writer accepts a record with its tail, whatever the room, the slot is in good form and the descriptor fits, demand 3 speaks.
  pub writer-ready : Held r → Bytes tail → good_form s ≡ true → fits_in (size_of r tail) (length s) ≡ true → (room : ℕ) → number_of (write_told r tail room) ≡ 0 → Ready s r tail
  unfolding write_told
  writer-ready h b g f room e =
      let w₄ = when (ltb 0 (unwritable r)) (4 ∷ unwritable r ∷ []) (0 ∷ encoded_length r tail ∷ []) in
      let w₅ = when (ltb room (encoded_length r tail)) (5 ∷ encoded_length r tail ∷ room ∷ []) w₄ in
      let w₂ = when (ltb 4096 (encoded_length r tail)) (2 ∷ saturated (encoded_length r tail) ∷ []) w₅ in
      let a₃ = zero-else (ltb 0 (inconsistency r)) (3 ∷ inconsistency r ∷ []) w₂ e (λ (z : ◌≡◌ {A = ℕ} 3 0). omega arith) in
      let a₂ = zero-else (ltb 4096 (encoded_length r tail)) (2 ∷ saturated (encoded_length r tail) ∷ []) w₅ a₃.1 (λ (z : ◌≡◌ {A = ℕ} 2 0). omega arith) in
      let a₅ = zero-else (ltb room (encoded_length r tail)) (5 ∷ encoded_length r tail ∷ room ∷ []) w₄ a₂.1 (λ (z : ◌≡◌ {A = ℕ} 5 0). omega arith) in
      let a₄ = zero-else (ltb 0 (unwritable r)) (4 ∷ unwritable r ∷ []) (0 ∷ encoded_length r tail ∷ []) a₅.1 (λ (z : ◌≡◌ {A = ℕ} 4 0). omega arith) in
      let i : inconsistency r ≤ 0 = ltb-false 0 (inconsistency r) a₃.0 in
      let w : unwritable r ≤ 0 = ltb-false 0 (unwritable r) a₄.0 in
      record { form = g; consistent = omega arith; writable = omega arith; fits = f; held = h; bytes = b }
