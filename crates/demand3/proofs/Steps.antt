-- Demand 3 after steps with any allowances: each step goes from k stores to as many more as it may make, so the slot is the one after as
-- many stores as the job says.
-- Assumes nothing.
use mathlib.Core.Path.{◌≡◌, refl, ap, ◌∙◌}
use mathlib.Core.List.{List, [], ◌∷◌}
use mathlib.Core.Bool.{true, false}
use Prim.Native.Nat.{ℕ, ◌+◌, ◌-◌, ◌≤◌, ◌<◌, min}
use native.Mathlib.Omega.{arith}
use borrow.Author.Tests.{eq-eqb, ne_eqb}
use lib.ListN.{length, take, replicate}
use Rattle.s2xv2.specs.Encode.{parts_of, encoded_length}
use Rattle.s2xv2.specs.declared.record.S2Xv2SatelliteDeliverySystem.{S2Xv2SatelliteDeliverySystem}
use Rattle.stores.specs.Run.{run}
use Rattle.stores.proofs.Laws.{run_length, run-add}
use Rattle.slot.specs.Read.{ReadsAs}
use Rattle.form.proofs.GoodForm.{form-size}
use Rattle.job.specs.declared.job.Job.{Job}
use Rattle.job.specs.Stores.{stores}
use Rattle.job.specs.Job.{todo, with_made, fair, Fair}
use Rattle.job.specs.Step.{step_of, slot_after}
use Rattle.begin.specs.Begin.{padded, new_job, descriptor_of, Begins}
use Rattle.job.proofs.Lists.{first-all}
use Rattle.job.proofs.Fairness.{facts-fair, fits-facts}
use Rattle.demand3.specs.Demand3.{Ready, job_stores, due}
use Rattle.demand3.specs.Stepping.{Going, begun, step, stepping, sum, AllPositive}
use Rattle.demand3.proofs.Fold.{size_is, fits-it, demand3}
use Rattle.demand3.proofs.Accepts.{begins}

-- the job with k stores made, and the slot after them
abbrev pub reached : Job → List ℕ → ℕ → Going
reached j s k = record { job = with_made j k; slot = run (take k (todo j)) s }

module _ (j : Job) (s : List ℕ) (size : length s ≡ j.slot_size) (fresh : Fair j) where
  still : (k : ℕ) → k ≤ j.slot_size + 2 → fair (with_made j k) (length (run (take k (todo j)) s)) ≡ true
  still k h = facts-fair (with_made j k) (length (run (take k (todo j)) s)) (rw run_length (omega arith))

  -- one step
  pub one-step : (k a : ℕ) → k ≤ j.slot_size + 2 → step (reached j s k) a ≡ reached j s (min (k + a) (j.slot_size + 2))
  unfolding step_of slot_after todo
  one-step k a h =
      let e : k + min a (j.slot_size + 2 - k) ≡ min (k + a) (j.slot_size + 2) = omega arith in
      rw (still k h, ← e)
      (ap {B = Going} (λ (t : List ℕ). record { job = with_made j (k + min a (j.slot_size + 2 - k)); slot = t }) (run-add (todo j) k (min a (j.slot_size + 2 - k)) s))

  -- .. and what it tells
  pub tells-accepted : (k a : ℕ) → k ≤ j.slot_size + 2 → (step_of (with_made j k) (length (run (take k (todo j)) s)) a).told ≡ 0 ∷ []
  unfolding step_of
  tells-accepted k a h = rw (still k h)

  pub tells-stores : (k a : ℕ) → k ≤ j.slot_size + 2 → (step_of (with_made j k) (length (run (take k (todo j)) s)) a).made ≡ min a (j.slot_size + 2 - k)
  unfolding step_of
  tells-stores k a h = rw (still k h)

  pub tells-done : (k a : ℕ) → k ≤ j.slot_size + 2 → j.slot_size + 2 ≤ k + a → (step_of (with_made j k) (length (run (take k (todo j)) s)) a).done ≡ true
  unfolding step_of
  tells-done k a h l =
      let e : min a (j.slot_size + 2 - k) ≡ j.slot_size + 2 - k = omega arith in
      rw (still k h) (eq-eqb (min a (j.slot_size + 2 - k)) (j.slot_size + 2 - k) e)

  pub tells_more : (k a : ℕ) → k ≤ j.slot_size + 2 → k + a < j.slot_size + 2 → (step_of (with_made j k) (length (run (take k (todo j)) s)) a).done ≡ false
  unfolding step_of
  tells_more k a h l =
      let e : min a (j.slot_size + 2 - k) ≡ j.slot_size + 2 - k → ⊥ = omega arith in
      rw (still k h) (ne_eqb (min a (j.slot_size + 2 - k)) (j.slot_size + 2 - k) e)

  -- any steps
  pub stepped : (k : ℕ) (more : List ℕ) → k ≤ j.slot_size + 2 → stepping (reached j s k) more ≡ reached j s (min (k + sum more) (j.slot_size + 2))
  unfolding stepping
  stepped k [] h = ap (reached j s) (omega arith)
  stepped k (a ∷ more) h =
      let e : min (min (k + a) (j.slot_size + 2) + sum more) (j.slot_size + 2) ≡ min (k + (a + sum more)) (j.slot_size + 2) = omega arith in
      ap (λ (g : Going). stepping g more) (one-step k a h) ∙ stepped (min (k + a) (j.slot_size + 2)) more (omega arith) ∙ ap (reached j s) e

sum-least : (more : List ℕ) → AllPositive more → length more ≤ sum more
sum-least [] p = omega arith
sum-least (a ∷ more) p = let l = sum-least more p.1 in omega arith

-- ---- a job that begin gave

-- its stores are those of the descriptor
begun-todo : (n : ℕ) (ds : List ℕ) → todo (new_job n ds) ≡ stores n ds
unfolding todo padded
begun-todo n ds = ap (stores n) (first-all ds (replicate (257 - length ds) 0))

module _ {s : List ℕ} {r : S2Xv2SatelliteDeliverySystem} {tail : List ℕ} (R : Ready s r tail) where
  abbrev its-job : Job
  its-job = new_job (length s) (descriptor_of r tail)

  least : 18 ≤ encoded_length r tail
  unfolding encoded_length parts_of
  least = omega arith

  fresh : Fair its-job
  fresh =
      let n = form-size s R.form in
      let f = fits-facts (length (descriptor_of r tail)) (length s) (fits-it R) in
      let l = least in
      let e = size_is r tail in
      omega arith

  reach-it : (more : List ℕ) → stepping (begun s r tail) more ≡ reached its-job s (min (sum more) (length s + 2))
  unfolding run
  reach-it more =
      let e : stepping (reached its-job s 0) more ≡ reached its-job s (min (0 + sum more) (length s + 2)) = stepped its-job s refl fresh 0 more (omega arith) in
      let z : 0 + sum more ≡ sum more = omega arith in
      ap (λ (b : Begins). stepping (record { job = b.job; slot = s }) more) (begins R) ∙ rw (e, z)

  -- After steps with any allowances the job has made as many stores as they allow, at most n + 2, and the slot is the one after these.
  pub after-steps : (more : List ℕ) → stepping (begun s r tail) more
      ≡ record { job = with_made its-job (min (sum more) (length s + 2)); slot = run (take (min (sum more) (length s + 2)) (job_stores s r tail)) s }
  after-steps more = reach-it more ∙ rw (begun-todo (length s) (descriptor_of r tail))

  -- DEMAND 3 after steps with any allowances.
  pub demand3-steps : (more : List ℕ) → ReadsAs (stepping (begun s r tail) more).slot (due s r tail (min (sum more) (length s + 2)))
  demand3-steps more = rw (after-steps more) (demand3 R (min (sum more) (length s + 2)))

  -- A further step with allowance a is accepted, and tells the smaller of a and the stores left, and done exactly if none is left then.
  pub next-accepted : (more : List ℕ) (a : ℕ) → let g = stepping (begun s r tail) more in (step_of g.job (length g.slot) a).told ≡ 0 ∷ []
  next-accepted more a = rw (reach-it more) (tells-accepted its-job s refl fresh (min (sum more) (length s + 2)) a (omega arith))

  pub next-stores : (more : List ℕ) (a : ℕ)
      → let g = stepping (begun s r tail) more in (step_of g.job (length g.slot) a).made ≡ min a (length s + 2 - min (sum more) (length s + 2))
  next-stores more a = rw (reach-it more) (tells-stores its-job s refl fresh (min (sum more) (length s + 2)) a (omega arith))

  pub next-done : (more : List ℕ) (a : ℕ) → length s + 2 ≤ sum more + a → let g = stepping (begun s r tail) more in (step_of g.job (length g.slot) a).done ≡ true
  next-done more a h = rw (reach-it more) (tells-done its-job s refl fresh (min (sum more) (length s + 2)) a (omega arith) (omega arith))

  pub next_more : (more : List ℕ) (a : ℕ) → sum more + a < length s + 2 → let g = stepping (begun s r tail) more in (step_of g.job (length g.slot) a).done ≡ false
  next_more more a h = rw (reach-it more) (tells_more its-job s refl fresh (min (sum more) (length s + 2)) a (omega arith) (omega arith))

  -- With allowances of at least 1 a job is done within n + 2 steps: all of its stores are made, and if no step before told it, the last one tells done.
  pub done-in : (more : List ℕ) → AllPositive more → length s + 2 ≤ length more → (stepping (begun s r tail) more).job.stores_made ≡ length s + 2
  done-in more p h = let l = sum-least more p in ap (λ (g : Going). g.job.stores_made) (after-steps more) ∙ omega arith

  pub done-told : (more : List ℕ) (a : ℕ) → AllPositive more → 1 ≤ a → length s + 1 ≤ length more → let g = stepping (begun s r tail) more in (step_of g.job (length g.slot) a).done ≡ true
  done-told more a p q h = let l = sum-least more p in next-done more a (omega arith)
