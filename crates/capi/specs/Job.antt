-- What a step answers as it crosses. Assumes nothing.
-- `number_in`       the number of its answer
-- `advanced_out`    all but the job
-- `stepped_out`     that and the job
-- `moved_out`       that and the number of stores that the job has made
-- `SteppedInPlace`  what the step in place promises: the answer, the job and the slot afterwards
use Rattle.std.specs.Prelude.{ℕ, ◌≡◌, List, length, get_or}
use Rattle.wire.specs.Flags.{bit}
use Rattle.job.specs.declared.job.Job.{Job}
use Rattle.job.specs.Step.{Steps, step_of, slot_after}
use Rattle.capi.specs.declared.jobs.PlainAdvanced.{PlainAdvanced}
use Rattle.capi.specs.declared.jobs.PlainStepped.{PlainStepped}
use Rattle.capi.specs.declared.jobs.PlainMoved.{PlainMoved}

abbrev pub number_in : List ℕ → ℕ
number_in told = get_or told 0 0

abbrev pub advanced_out : Steps → PlainAdvanced
advanced_out s = record { stores = s.made; number = number_in s.told; done = bit s.done }

abbrev pub stepped_out : Steps → PlainStepped
stepped_out s = record { job = s.job; told = advanced_out s }

abbrev pub moved_out : Steps → PlainMoved
moved_out s = record { made = s.job.stores_made; told = advanced_out s }

-- of a job and a slot before, with an allowance: what is told, the job after, and the slot after
pub record SteppedInPlace (before : Job) (slot : List ℕ) (allowance : ℕ) (r : PlainAdvanced) (after : Job) (last : List ℕ) : Type 0 where
  pub told : r ≡ advanced_out (step_of before (length slot) allowance)
  pub job : after ≡ (step_of before (length slot) allowance).job
  pub left : last ≡ slot_after before slot allowance
