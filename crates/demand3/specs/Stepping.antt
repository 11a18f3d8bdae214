-- A job and its slot under steps, as the contracts of begin and step say. Assumes nothing.
-- `Going`        a job and its slot
-- `begun`        where begin leaves them
-- `step`         one step on
-- `stepping`     through steps with given allowances
-- `sum`          of the allowances
-- `AllPositive`  each allowance is at least 1
-- `Stopped`      a job that was begun, stepped some times and dropped
-- `Typed`        what the types say of it
-- `AllTyped`     what they say of several
-- `leaves`       the slot that it leaves
-- `interrupted`  the slot that several leave
use Rattle.std.specs.Prelude.{ℕ, ◌+◌, ◌≤◌, List, [], ◌∷◌, length}
use Rattle.wire.specs.Widths.{Bytes}
use Rattle.job.specs.declared.job.Job.{Job}
use Rattle.job.specs.Step.{step_of, slot_after}
use Rattle.begin.specs.Begin.{begin_of}
use Rattle.s2xv2.specs.Held.{Held}
use Rattle.s2xv2.specs.declared.record.S2Xv2SatelliteDeliverySystem.{S2Xv2SatelliteDeliverySystem}

pub record Going : Type 0 where
  pub job : Job
  pub slot : List ℕ

-- the job begun for a record and its tail, and the slot
abbrev pub begun : List ℕ → S2Xv2SatelliteDeliverySystem → List ℕ → Going
begun s r tail = record { job = (begin_of s r tail).job; slot = s }

-- one step, and one after the other
abbrev pub step : Going → ℕ → Going
step g a = record { job = (step_of g.job (length g.slot) a).job; slot = slot_after g.job g.slot a }

unfoldable pub stepping : Going → List ℕ → Going
stepping g [] = g
stepping g (a ∷ more) = stepping (step g a) more

abbrev pub sum : List ℕ → ℕ
sum [] = 0
sum (a ∷ more) = a + sum more

abbrev pub AllPositive : List ℕ → Type 0
AllPositive [] = Unit {0}
AllPositive (a ∷ more) = (1 ≤ a) × AllPositive more

-- the record and the tail that it was begun with, and the allowances of its steps
pub record Stopped : Type 0 where
  pub body : S2Xv2SatelliteDeliverySystem
  pub tail : List ℕ
  pub steps : List ℕ

abbrev pub Typed : Stopped → Type 0
Typed x = Held x.body × Bytes x.tail

abbrev pub AllTyped : List Stopped → Type 0
AllTyped [] = Unit {0}
AllTyped (x ∷ xs) = Typed x × AllTyped xs

-- each is begun where the one before it was stopped; one that begin refuses is stepped all the same
abbrev pub leaves : List ℕ → Stopped → List ℕ
leaves s x = (stepping (begun s x.body x.tail) x.steps).slot

unfoldable pub interrupted : List ℕ → List Stopped → List ℕ
interrupted s [] = s
interrupted s (x ∷ xs) = interrupted (leaves s x) xs
