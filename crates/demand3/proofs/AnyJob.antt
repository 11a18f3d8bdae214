-- A step of any job, begun, old or forged, stores only bytes of its own list, and none with an allowance of 0: it runs some of the job's stores, or none.
-- Assumes nothing.
use mathlib.Core.Path.{◌≡◌, refl, ap}
use mathlib.Core.Bool.{Bool, true, false}
use mathlib.Core.List.{List}
use Prim.Native.Nat.{ℕ}
use native.Mathlib.Omega.{arith}
use lib.ListN.{length, get_or, take, drop}
use Rattle.wire.specs.Flags.{when}
use Rattle.stores.specs.declared.store.Store.{Store}
use Rattle.stores.specs.Run.{run, Own}
use Rattle.stores.specs.Run.Own.{kept, ours}
use Rattle.stores.proofs.Laws.{run-own, member-take, member-drop}
use Rattle.job.specs.declared.job.Job.{Job}
use Rattle.job.specs.Job.{todo, next_stores, with_made, fair}
use Rattle.job.specs.Step.{accepts, refuses, step_count, step_of, slot_after}
use Rattle.demand3.specs.Stepping.{Going, step}

-- ---- only its own bytes
own-some : (ps : List Store) (k c i old new : ℕ) → Own (take c (drop k ps)) i old new → Own ps i old new
own-some ps k c i old new (kept e) = kept e
own-some ps k c i old new (ours m) = ours (member-drop k ps (member-take c (drop k ps) m))

own-when : (f : Bool) (j : Job) (s : List ℕ) (c i : ℕ) → Own (todo j) i (get_or s i 0) (get_or (when f (run (next_stores j c) s) s) i 0)
own-when true j s c i = own-some (todo j) j.stores_made c i _ _ (run-own (next_stores j c) s i)
own-when false j s c i = kept refl

-- At each place of the slot a step of any job leaves what stood there, or a byte that the job's own list stores there.
pub step-own : (j : Job) (s : List ℕ) (a i : ℕ) → Own (todo j) i (get_or s i 0) (get_or (slot_after j s a) i 0)
unfolding slot_after
step-own j s a i = own-when (fair j (length s)) j s (step_count j a) i

-- ---- an allowance of 0
none_made : (j : Job) → step_count j 0 ≡ 0
none_made j = omega arith

zero-job : (f : Bool) (j : Job) → (when f (accepts j 0) (refuses j)).job ≡ j
zero-job true j = ap (with_made j) (omega arith)
zero-job false j = refl

zero-slot : (f : Bool) (j : Job) (s : List ℕ) → when f (run (next_stores j 0) s) s ≡ s
unfolding run
zero-slot true j s = refl
zero-slot false j s = refl

-- A step with an allowance of 0 changes neither the job nor the slot.
pub step-zero : (g : Going) → step g 0 ≡ g
unfolding step_of slot_after
step-zero g = rw (none_made g.job, zero-job (fair g.job (length g.slot)) g.job, zero-slot (fair g.job (length g.slot)) g.job g.slot)
