-- What begin tells, by the way through the code: each test of the definition is one that the code or the writer has made, and a refusal is never number 0.
-- An answer goes with its job (`refuses`, `accepts`), and both cross (`crossed`). Told are 6 and 12 by the form (`told-form`), 3 and 2 as the length call
-- tells them (`told-length`, `told_fit`, `length-accepted`), 7 (`told-no-fit`, `told-fits`), and 4 as the writer tells it (`told-field`,
-- `told-stores`). In good form, and only there, the record is judged (`told-record`, `accepted-form`).
-- Assumes nothing.
use mathlib.Core.Path.{◌≡◌, refl, sym, ap, ◌∙◌}
use mathlib.Core.Bool.{Bool, true, false, not, false≢true}
use mathlib.Core.List.{List, [], ◌∷◌}
use mathlib.Core.Logic.{◌⊎◌, ⊎_elim}
use Prim.Native.Nat.{ℕ, ◌+◌, ◌≤◌}
use native.Mathlib.Omega.{arith}
use borrow.Author.Tests.{le-ltb, ltb-false, eqb-true, eqb-false}
use lib.ListN.{length}
use lib.Dec.{eqb, ltb}
use Rattle.wire.specs.Flags.{when}
use Rattle.s2xv2.specs.declared.record.S2Xv2SatelliteDeliverySystem.{S2Xv2SatelliteDeliverySystem}
use Rattle.answers.specs.declared.answer.Refusal.{Refusal}
use Rattle.answers.specs.Answer.{numbers, saturated, number_of}
use Rattle.answers.specs.Plain.{answer_out}
use Rattle.answers.specs.declared.plain.PlainAnswer.{PlainAnswer}
use Rattle.s2xv2.specs.Encode.{encoded_length}
use Rattle.s2xv2.specs.ListA.{inconsistency}
use Rattle.s2xv2.specs.ListB.{unwritable}
use Rattle.s2xv2.specs.Length.{length_told}
use Rattle.s2xv2.specs.Write.{write_told}
use Rattle.answers.specs.declared.answer.Refusal.TheVariants as R
use Rattle.answers.proofs.Answers.{refused-number, refused}
use Rattle.form.specs.Form.{good_form, form_of}
use Rattle.form.specs.declared.good.Form.{Form}
use Rattle.form.specs.declared.good.Form.TheVariants as F
use Rattle.form.proofs.Answers.{is_good, good-told}
use Rattle.job.specs.declared.job.Job.{Job}
use Rattle.job.specs.Job.{fits_in}
use Rattle.begin.specs.Begin.{new_job, no_job, descriptor_of, Sized, stage_told, fit_told, record_told, form_told, begin_told, Begins, answered, sizes_of}

-- ---- an answer and its job
module _ (n : ℕ) (r : S2Xv2SatelliteDeliverySystem) (tail : List ℕ) where
  pub refuses : (why : Refusal) (told : List ℕ) → numbers why ≡ told → ◌≡◌ {A = Begins} (record { told = numbers why; job = no_job }) (answered told n r tail)
  refuses why told e = rw (← e, refused-number why)

  pub accepts : (told : List ℕ) (m : ℕ) (job : Job) → 0 ∷ m ∷ [] ≡ told → job ≡ new_job n (descriptor_of r tail)
      → ◌≡◌ {A = Begins} (record { told = 0 ∷ m ∷ []; job = job }) (answered told n r tail)
  accepts told m job e q = rw (← e, q)

-- what crosses of a begin: its answer as plain numbers, and the two parts of its job
pub crossed : {x : PlainAnswer} {staged sizes : List ℕ} {b b' : Begins} → b ≡ b' → x ≡ answer_out b.told → staged ≡ b.job.staged → sizes ≡ sizes_of b.job
    → (x ≡ answer_out b'.told) × ((staged ≡ b'.job.staged) × (sizes ≡ sizes_of b'.job))
crossed e told bytes numbers =
    (told ∙ ap (λ (t : Begins). answer_out t.told) e, (bytes ∙ ap (λ (t : Begins). t.job.staged) e, numbers ∙ ap (λ (t : Begins). sizes_of t.job) e))

-- a refusal is not number 0
not-zero : (why : Refusal) (l : List ℕ) → numbers why ≡ 0 ∷ l → ⊥
not-zero why l e = eqb-false (number_of (numbers why)) 0 (refused-number why) (ap number_of e)

-- a pick that tells a refusal is no other where the accepted answer is another
pick-refused : (c : Bool) (why : Refusal) (a b l : List ℕ) → numbers why ≡ when c a (0 ∷ l) → numbers why ≡ when c a b
pick-refused true why a b l e = e
pick-refused false why a b l e = absurd (not-zero why l e)

-- ---- 6 and 12, by the form of the slot
pub told-form : (s : List ℕ) (r : S2Xv2SatelliteDeliverySystem) (tail : List ℕ) (f : Form) → f ≡ form_of s → form_told f (record_told (length s) r tail) ≡ begin_told s r tail
unfolding begin_told
told-form s r tail f e = ap (λ (x : Form). form_told x (record_told (length s) r tail)) e

-- the arm of the two forms that are good
pub good-arm : (s : List ℕ) (f : Form) → f ≡ form_of s → (f ≡ F.Empty) ⊎ ((x : ℕ) × (f ≡ F.Ours x)) → good_form s ≡ true
good-arm s f e k = sym (good-told s f e) ∙ ⊎_elim (λ h. ap is_good h) (λ h. ap is_good h.1) k

-- in good form the record is judged, and only there
in-form : (f : Form) (told : List ℕ) → is_good f ≡ true → told ≡ form_told f told
in-form F.Size told e = absurd (false≢true e)
in-form (F.Broken at) told e = absurd (false≢true e)
in-form F.Empty told e = refl
in-form (F.Ours at) told e = refl

out-of-form : (f : Form) (told : List ℕ) → number_of (form_told f told) ≡ 0 → is_good f ≡ true
out-of-form F.Size told e = absurd (refused R.Slot e)
out-of-form (F.Broken at) told e = absurd (refused (R.SlotForm at) e)
out-of-form F.Empty told e = refl
out-of-form (F.Ours at) told e = refl

module _ (s : List ℕ) (r : S2Xv2SatelliteDeliverySystem) (tail : List ℕ) where
  pub told-record : good_form s ≡ true → record_told (length s) r tail ≡ begin_told s r tail
  unfolding begin_told
  told-record g = in-form (form_of s) (record_told (length s) r tail) (good-told s (form_of s) refl ∙ g)

  pub accepted-form : number_of (begin_told s r tail) ≡ 0 → good_form s ≡ true
  unfolding begin_told
  accepted-form e = sym (good-told s (form_of s) refl) ∙ out-of-form (form_of s) (record_told (length s) r tail) e

-- ---- 3 and 2, as the length call tells them
module _ (n : ℕ) (r : S2Xv2SatelliteDeliverySystem) (tail : List ℕ) where
  two-refused : (c₃ c₂ : Bool) (why : Refusal) (a₃ a₂ b l : List ℕ) → numbers why ≡ when c₃ a₃ (when c₂ a₂ (0 ∷ l)) → numbers why ≡ when c₃ a₃ (when c₂ a₂ b)
  two-refused true c₂ why a₃ a₂ b l e = e
  two-refused false c₂ why a₃ a₂ b l e = pick-refused c₂ why a₂ b l e

  pub told-length : (why : Refusal) → numbers why ≡ length_told r tail → numbers why ≡ record_told n r tail
  unfolding record_told length_told
  told-length why e =
      let m = encoded_length r tail in
      two-refused (ltb 0 (inconsistency r)) (ltb 4096 m) why (3 ∷ inconsistency r ∷ []) (2 ∷ saturated m ∷ []) _ (m ∷ []) e

  pub told_fit : inconsistency r ≡ 0 → encoded_length r tail ≤ 4096 → fit_told n r tail ≡ record_told n r tail
  unfolding record_told
  told_fit a l = rw (a, le-ltb 4096 (encoded_length r tail) l)

zero-pick : (c : Bool) (k m : ℕ) (l : List ℕ) (b : List ℕ) → 0 ∷ m ∷ [] ≡ when c (k ∷ l) b → (k ≡ 0 → ⊥) → (c ≡ false) × (0 ∷ m ∷ [] ≡ b)
zero-pick true k m l b e h = absurd (h (ap number_of (sym e)))
zero-pick false k m l b e h = (refl, e)

-- where the length call accepts, both tests are passed, and it tells the length
pub length-accepted : (r : S2Xv2SatelliteDeliverySystem) (tail : List ℕ) (m : ℕ) → 0 ∷ m ∷ [] ≡ length_told r tail
    → (inconsistency r ≡ 0) × ((encoded_length r tail ≤ 4096) × (m ≡ encoded_length r tail))
unfolding length_told
length-accepted r tail m e =
    let a = zero-pick (ltb 0 (inconsistency r)) 3 m (inconsistency r ∷ []) _ e (λ (z : ◌≡◌ {A = ℕ} 3 0). omega arith) in
    let b = zero-pick (ltb 4096 (encoded_length r tail)) 2 m (saturated (encoded_length r tail) ∷ []) _ a.1 (λ (z : ◌≡◌ {A = ℕ} 2 0). omega arith) in
    let i : inconsistency r ≤ 0 = ltb-false 0 (inconsistency r) a.0 in
    let q : m ≡ encoded_length r tail = cc in
    (omega arith, (ltb-false 4096 (encoded_length r tail) b.0, q))

-- ---- 7

module _ {n d : ℕ} {r : S2Xv2SatelliteDeliverySystem} {tail : List ℕ} (S : Sized n d r tail) where
  pub told-no-fit : fits_in d n ≡ false → 7 ∷ d ∷ [] ≡ fit_told n r tail
  unfolding fit_told
  told-no-fit h = rw (S.size, rw S.size at h)

  pub told-fits : fits_in d n ≡ true → stage_told n r ≡ fit_told n r tail
  unfolding fit_told
  told-fits h = rw (rw S.size at h)

-- ---- 4, as the writer tells it where 3, 2 and 5 are passed
module _ (n : ℕ) (r : S2Xv2SatelliteDeliverySystem) (tail : List ℕ) (room : ℕ)
    (a : inconsistency r ≡ 0) (l : encoded_length r tail ≤ 4096) (h : encoded_length r tail ≤ room) where
  write-told : write_told r tail room ≡ when (ltb 0 (unwritable r)) (4 ∷ unwritable r ∷ []) (0 ∷ encoded_length r tail ∷ [])
  unfolding write_told
  write-told = rw (a, le-ltb 4096 (encoded_length r tail) l, le-ltb room (encoded_length r tail) h)

  pub told-field : (why : Refusal) → numbers why ≡ write_told r tail room → numbers why ≡ stage_told n r
  unfolding stage_told
  told-field why e = pick-refused (ltb 0 (unwritable r)) why (4 ∷ unwritable r ∷ []) (0 ∷ (n + 2) ∷ []) (encoded_length r tail ∷ []) (e ∙ write-told)

  pub told-stores : (m : ℕ) → 0 ∷ m ∷ [] ≡ write_told r tail room → 0 ∷ (n + 2) ∷ [] ≡ stage_told n r
  unfolding stage_told
  told-stores m e = rw (zero-pick (ltb 0 (unwritable r)) 4 m (unwritable r ∷ []) _ (e ∙ write-told) (λ (z : ◌≡◌ {A = ℕ} 4 0). omega arith)).0
