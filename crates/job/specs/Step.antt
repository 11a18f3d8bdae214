-- What a step answers, and what it leaves in the slot. Assumes nothing.
-- `step_told`   an answer in numbers
-- `step_made`   how many stores it says that the step made
-- `step_done`   whether it says that the job is done
-- `Steps`       a whole answer
-- `step_seen`   that of what the call returns
-- `moved_seen`  that of what a step returns that has the job in parts
-- `step_count`  how many stores a step makes
-- `accepts`     what a step answers that is accepted and makes so many stores
-- `refuses`     what a step answers that is refused
-- `step_of`     what a step answers, lent a slot of so many bytes
-- `slot_after`  the slot afterwards
use Rattle.std.specs.Prelude.{ℕ, min, List, [], ◌∷◌, Bool, false, length, eqb, Result, Ok, Err}
use Rattle.wire.specs.Flags.{when}
use Rattle.stores.specs.Run.{run}
use Rattle.job.specs.declared.job.Job.{Job}
use Rattle.job.specs.declared.job.OtherSize.{OtherSize}
use Rattle.job.specs.declared.job.Advanced.{Advanced}
use Rattle.job.specs.declared.job.Stepped.{Stepped}
use Rattle.job.specs.declared.advance.Moved.{Moved}
use Rattle.job.specs.Job.{left, next_stores, with_made, advanced, fair}

-- accepted is 0, and the error 8, with no store and not done
abbrev pub step_told : {A : Type 0} → Result A OtherSize → List ℕ
step_told (Ok a) = 0 ∷ []
step_told (Err why) = 8 ∷ []

abbrev pub step_made : Result Advanced OtherSize → ℕ
step_made (Ok a) = a.stores
step_made (Err why) = 0

abbrev pub step_done : Result Advanced OtherSize → Bool
step_done (Ok a) = a.done
step_done (Err why) = false

-- the answer in numbers, the stores made, whether the job is done, and the job
pub record Steps : Type 0 where
  pub told : List ℕ
  pub made : ℕ
  pub done : Bool
  pub job : Job

abbrev pub step_seen : Stepped → Steps
step_seen r = record { told = step_told r.answer; made = step_made r.answer; done = step_done r.answer; job = r.job }

-- from the stores made in all, in place of the job
abbrev pub moved_seen : Job → Result Moved OtherSize → Steps
moved_seen j (Ok m) = record { told = 0 ∷ []; made = m.advanced.stores; done = m.advanced.done; job = with_made j m.made }
moved_seen j (Err why) = record { told = 8 ∷ []; made = 0; done = false; job = j }

-- the smaller of the allowance and the stores left
abbrev pub step_count : Job → ℕ → ℕ
step_count j allowance = min allowance (left j)

-- WHAT A STEP ANSWERS, lent a slot of n bytes
abbrev pub accepts : Job → ℕ → Steps
accepts j k = record { told = 0 ∷ []; made = k; done = eqb k (left j); job = advanced j k }

abbrev pub refuses : Job → Steps
refuses j = record { told = 8 ∷ []; made = 0; done = false; job = j }

unfoldable pub step_of : Job → ℕ → ℕ → Steps
step_of j n allowance = when (fair j n) (accepts j (step_count j allowance)) (refuses j)

-- WHAT IT LEAVES in the slot
unfoldable pub slot_after : Job → List ℕ → ℕ → List ℕ
slot_after j s allowance = when (fair j (length s)) (run (next_stores j (step_count j allowance)) s) s
