-- A step changes nothing of a job but the number of stores made.
-- Assumes nothing.
use mathlib.Core.Path.{◌≡◌, refl}
use mathlib.Core.Bool.{Bool, true, false}
use Prim.Native.Nat.{ℕ}
use Rattle.wire.specs.Flags.{when}
use Rattle.job.specs.declared.job.Job.{Job}
use Rattle.job.specs.Job.{with_made, fair}
use Rattle.job.specs.Step.{step_count, accepts, refuses, step_of}

pub step_keeps : (j : Job) (n allowance : ℕ) → with_made j (step_of j n allowance).job.stores_made ≡ (step_of j n allowance).job
unfolding step_of
step_keeps j n allowance = go (fair j n)
  where
    go : (b : Bool) → with_made j (when b (accepts j (step_count j allowance)) (refuses j)).job.stores_made
        ≡ (when b (accepts j (step_count j allowance)) (refuses j)).job
    go true = refl
    go false = refl
