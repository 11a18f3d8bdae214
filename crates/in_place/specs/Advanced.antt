-- The step of a job that is lent. Assumes nothing.
-- `Tells`          what a step tells but for the job
-- `tells`          that of a step's answer
-- `advanced_seen`  that of what the call returns
-- `StepsInPlace`   what the call promises: the answer, the job and the slot afterwards
use Rattle.std.specs.Prelude.{ℕ, ◌≡◌, List, Bool, length, Result}
use Rattle.job.specs.declared.job.Job.{Job}
use Rattle.job.specs.declared.job.OtherSize.{OtherSize}
use Rattle.job.specs.declared.job.Advanced.{Advanced}
use Rattle.job.specs.Step.{Steps, step_told, step_made, step_done, step_of, slot_after}

-- the answer in numbers, the stores made, and whether the job is done
pub record Tells : Type 0 where
  pub told : List ℕ
  pub made : ℕ
  pub done : Bool

abbrev pub tells : Steps → Tells
tells s = record { told = s.told; made = s.made; done = s.done }

abbrev pub advanced_seen : Result Advanced OtherSize → Tells
advanced_seen r = record { told = step_told r; made = step_made r; done = step_done r }

-- of a job and a slot before, with an allowance: what is told, the job after, and the slot after
pub record StepsInPlace (before : Job) (slot : List ℕ) (allowance : ℕ) (r : Result Advanced OtherSize) (after : Job) (last : List ℕ) : Type 0 where
  pub told : advanced_seen r ≡ tells (step_of before (length slot) allowance)
  pub job : after ≡ (step_of before (length slot) allowance).job
  pub left : last ≡ slot_after before slot allowance
