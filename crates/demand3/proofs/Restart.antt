-- A job begun where any number of others were stopped ends as on a slot never interrupted: these leave the slot in good form, begin asks
-- of a slot in good form only its size, and all stores of a job leave the same bytes whatever stood there.
-- Assumes nothing.
use mathlib.Core.Path.{◌≡◌, refl, sym, ap, ap₂, ◌∙◌}
use mathlib.Core.List.{List, [], ◌∷◌}
use mathlib.Core.Bool.{Bool, true, false}
use Prim.Native.Nat.{ℕ, ◌+◌, ◌≤◌, min}
use native.Mathlib.Omega.{arith}
use lib.ListN.{length, take}
use lib.Seq.{take_all}
use lib.Dec.{eqb}
use borrow.Author.Tests.{eqb-true}
use Rattle.s2xv2.specs.declared.record.S2Xv2SatelliteDeliverySystem.{S2Xv2SatelliteDeliverySystem}
use Rattle.s2xv2.specs.Encode.{encode}
use Rattle.answers.specs.Answer.{number_of}
use Rattle.stores.proofs.Laws.{run_length}
use Rattle.form.specs.Envelope.{holding}
use Rattle.form.specs.Form.{good_form}
use Rattle.begin.specs.Begin.{no_job, record_told, begin_told, begin_of, descriptor_of}
use Rattle.begin.proofs.Telling.{told-record}
use Rattle.begin.proofs.NoJob.{no-job-refused, no-job-stores-nothing}
use Rattle.job.specs.Step.{Steps}
use Rattle.job.proofs.Lists.{stores-length}
use Rattle.job.proofs.Fairness.{fits-facts}
use Rattle.demand3.specs.Demand3.{Ready, job_stores}
use Rattle.demand3.specs.Stepping.{Going, begun, stepping, sum, Stopped, Typed, AllTyped, leaves, interrupted}
use Rattle.demand3.proofs.Accepts.{ready}
use Rattle.demand3.proofs.Fold.{fits-it, ends}
use Rattle.demand3.proofs.Steps.{after-steps, demand3-steps}

-- of a slot in good form begin asks only its size
module _ (s t : List ℕ) (r : S2Xv2SatelliteDeliverySystem) (tail : List ℕ) (f : good_form s ≡ true) (g : good_form t ≡ true) (e : length t ≡ length s) where
  same-told : begin_told t r tail ≡ begin_told s r tail
  same-told = sym (told-record t r tail g) ∙ ap (λ (n : ℕ). record_told n r tail) e ∙ told-record s r tail f

  same-begin : begin_of t r tail ≡ begin_of s r tail
  unfolding begin_of
  same-begin = rw (same-told, e)

-- a slot as it was left stays one where demand 3 speaks
ready-there : {s t : List ℕ} {r : S2Xv2SatelliteDeliverySystem} {tail : List ℕ} → Ready s r tail → good_form t ≡ true → length t ≡ length s → Ready t r tail
ready-there R f e = record { form = f; consistent = R.consistent; writable = R.writable; fits = rw e R.fits; held = R.held; bytes = R.bytes }

-- the slot when all stores are made
module _ {s : List ℕ} {r : S2Xv2SatelliteDeliverySystem} {tail : List ℕ} (R : Ready s r tail) where
  all_made : (more : List ℕ) → length s + 2 ≤ sum more → (stepping (begun s r tail) more).slot ≡ holding (length s) (encode r tail)
  all_made more h =
      let f = fits-facts (length (descriptor_of r tail)) (length s) (fits-it R) in
      let l : length (job_stores s r tail) ≡ length s + 2 = stores-length (length s) (descriptor_of r tail) (omega arith) f.0 in
      let t : take (min (sum more) (length s + 2)) (job_stores s r tail) ≡ job_stores s r tail = take_all (min (sum more) (length s + 2)) (job_stores s r tail) (omega arith) in
      ap (λ (g : Going). g.slot) (after-steps R more) ∙ rw t (ends s (encode r tail) (fits-it R) s refl)

-- ---- what a stopped job leaves

-- where begin was refused, nothing
none_left : (s more : List ℕ) → (stepping (record { job = no_job; slot = s }) more).slot ≡ s
unfolding stepping
none_left s [] = refl
none_left s (a ∷ more) =
    ap₂ (λ (x : Steps) (t : List ℕ). (stepping (record { job = x.job; slot = t }) more).slot) (no-job-refused (length s) a) (no-job-stores-nothing s a)
    ∙ none_left s more

refused-leaves : (s : List ℕ) (x : Stopped) → eqb (number_of (begin_told s x.body x.tail)) 0 ≡ false → leaves s x ≡ s
unfolding begin_of
refused-leaves s x e = rw (e, leaves) (none_left s x.steps)

-- .. and in any case a slot of its size in good form
record Kept (s t : List ℕ) : Type 0 where
  pub form : good_form t ≡ true
  pub size : length t ≡ length s

leaves_kept : (s : List ℕ) (x : Stopped) → good_form s ≡ true → Typed x → Kept s (leaves s x)
leaves_kept s x g t = go (eqb (number_of (begin_told s x.body x.tail)) 0) refl
  where
    go : (c : Bool) → eqb (number_of (begin_told s x.body x.tail)) 0 ≡ c → Kept s (leaves s x)
    go true e =
        let R = ready s x.body x.tail t.0 t.1 (eqb-true _ _ e) in
        record {
          form = (demand3-steps R x.steps).form;
          size = ap (λ (y : Going). length y.slot) (after-steps R x.steps) ∙ run_length _ s;
        }
    go false e = rw (refused-leaves s x e) (record { form = g; size = refl })

interrupted-kept : (s : List ℕ) (xs : List Stopped) → good_form s ≡ true → AllTyped xs → Kept s (interrupted s xs)
unfolding interrupted
interrupted-kept s [] g a = record { form = g; size = refl }
interrupted-kept s (x ∷ xs) g a =
    let k = leaves_kept s x g a.0 in
    let l = interrupted-kept (leaves s x) xs k.form a.1 in
    record { form = l.form; size = l.size ∙ k.size }

-- ---- any number of jobs was stopped there, whatever their records, tails and steps, and another is begun
module _ (s : List ℕ) (form : good_form s ≡ true) (xs : List Stopped) (typed : AllTyped xs) where
  -- The slot is in good form and has its size.
  pub interrupted-form : (good_form (interrupted s xs) ≡ true) × (length (interrupted s xs) ≡ length s)
  interrupted-form = let k = interrupted-kept s xs form typed in (k.form, k.size)

  -- Begin answers there as on the slot before, for every record and tail, refused ones too.
  pub begins-alike : (r : S2Xv2SatelliteDeliverySystem) (tail : List ℕ) → begin_of (interrupted s xs) r tail ≡ begin_of s r tail
  begins-alike r tail = same-begin s (interrupted s xs) r tail form interrupted-form.0 interrupted-form.1

-- RESTART. Once all stores of the new job are made, by whatever steps, the bytes are those on a slot never interrupted.
pub restart : {s : List ℕ} {r : S2Xv2SatelliteDeliverySystem} {tail : List ℕ} → Ready s r tail → (xs : List Stopped) → AllTyped xs → (more other : List ℕ)
    → length s + 2 ≤ sum more → length s + 2 ≤ sum other → (stepping (begun (interrupted s xs) r tail) more).slot ≡ (stepping (begun s r tail) other).slot
restart {s} {r} {tail} R xs typed more other h l =
    let k = interrupted-kept s xs R.form typed in
    all_made (ready-there R k.form k.size) more (rw k.size h)
    ∙ ap (λ (n : ℕ). holding n (encode r tail)) k.size
    ∙ sym (all_made R other l)
