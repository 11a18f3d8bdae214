-- The job that stands where begin was refused: its slot size 0 is no slot's, so no step of it is fair.
-- Assumes nothing.
use mathlib.Core.Path.{◌≡◌, sym}
use mathlib.Core.Bool.{false}
use mathlib.Core.List.{List}
use Prim.Native.Nat.{ℕ}
use native.Mathlib.Omega.{arith}
use lib.ListN.{length}
use Rattle.job.specs.Job.{fair}
use Rattle.job.specs.Step.{refuses, step_of, slot_after}
use Rattle.job.proofs.Fairness.{unfair}
use Rattle.begin.specs.Begin.{no_job}

no-job-unfair : (n : ℕ) → fair no_job n ≡ false
no-job-unfair n = sym (unfair no_job n (λ f. omega arith))

-- Step refuses the job of a refused begin, on every slot, and stores nothing.
pub no-job-refused : (n a : ℕ) → step_of no_job n a ≡ refuses no_job
unfolding step_of
no-job-refused n a = rw (no-job-unfair n)

pub no-job-stores-nothing : (s : List ℕ) (a : ℕ) → slot_after no_job s a ≡ s
unfolding slot_after
no-job-stores-nothing s a = rw (no-job-unfair (length s))
