-- A fair job as it goes on, and what a step answers and leaves by whether the job is fair. A loop makes one store more a turn; the rest picks by one test.
-- Assumes nothing.
use mathlib.Core.Path.{◌≡◌, refl, sym, ap, ◌∙◌}
use mathlib.Core.Bool.{true, false}
use mathlib.Core.List.{List}
use Prim.Native.Nat.{ℕ, ◌+◌, ◌<◌}
use Rattle.std.specs.Prelude.{Ok, Err}
use native.Mathlib.Omega.{arith}
use lib.Dec.{eqb}
use lib.ListN.{length, get_or, drop, length-drop}
use lib.Seq.{get_or-drop}
use Rattle.stores.specs.declared.store.Store.{Store}
use Rattle.stores.specs.Run.{stored, run}
use Rattle.stores.proofs.Laws.{run_more}
use Rattle.job.specs.declared.job.Job.{Job}
use Rattle.job.specs.declared.job.OtherSize.{OtherSize}
use Rattle.job.specs.Job.{todo, left, none, next_store, next_stores, with_made, advanced, fair, Fair}
use Rattle.job.specs.Step.{moved_seen, step_count, step_of, slot_after}
use Rattle.job.proofs.Places.{todo-length}

-- the stores of a job do not hang on how many are made
pub todo-advanced : (j : Job) (k : ℕ) → todo (advanced j k) ≡ todo j
unfolding todo
todo-advanced j k = refl

-- no store more, and one store more
pub advanced-none : (j : Job) → j ≡ advanced j 0
advanced-none j = let e : j.stores_made ≡ j.stores_made + 0 = omega arith in ap (λ (k : ℕ). with_made j k) e

pub advanced-more : (j : Job) (i : ℕ) → advanced (advanced j i) 1 ≡ advanced j (i + 1)
advanced-more j i = let e : j.stores_made + i + 1 ≡ j.stores_made + (i + 1) = omega arith in ap (λ (k : ℕ). with_made j k) e

-- a job that goes on fairly began fairly
fair-begun : (j : Job) (i : ℕ) → Fair (advanced j i) → Fair j
fair-begun j i f = omega arith

-- one store more, as a loop makes it
pub stores-more : (j : Job) (i : ℕ) (s : List ℕ) → Fair (advanced j i) → j.stores_made + i < j.slot_size + 2
    → stored (next_store (advanced j i)) (run (next_stores j i) s) ≡ run (next_stores j (i + 1)) s
stores-more j i s f h =
    let l : i < length (drop j.stores_made (todo j)) = rw (length-drop, todo-length j (fair-begun j i f)) (omega arith) in
    let e : get_or (drop j.stores_made (todo j)) i none ≡ next_store (advanced j i) =
    get_or-drop j.stores_made (todo j) i none ∙ ap (λ (ps : List Store). get_or ps (j.stores_made + i) none) (sym (todo-advanced j i)) in
    ap (λ (p : Store). stored p (run (next_stores j i) s)) (sym e) ∙ sym (run_more (drop j.stores_made (todo j)) i none s l)

-- ---- what a step answers and leaves
module _ (j : Job) (s : List ℕ) (a : ℕ) where
  pub accepted : {k : ℕ} → fair j (length s) ≡ true → k ≡ step_count j a
      → moved_seen j (Ok (record { made = j.stores_made + k; advanced = record { stores = k; done = eqb k (left j) } })) ≡ step_of j (length s) a
  unfolding step_of
  accepted f e = rw (e, f)

  pub accepted-slot : {t : List ℕ} {k : ℕ} → fair j (length s) ≡ true → k ≡ step_count j a → t ≡ run (next_stores j k) s → t ≡ slot_after j s a
  unfolding slot_after
  accepted-slot f e q = rw (q, e, f)

  pub refused : (why : OtherSize) → fair j (length s) ≡ false → moved_seen j (Err why) ≡ step_of j (length s) a
  unfolding step_of
  refused why f = rw f

  pub refused-slot : fair j (length s) ≡ false → s ≡ slot_after j s a
  unfolding slot_after
  refused-slot f = rw f
