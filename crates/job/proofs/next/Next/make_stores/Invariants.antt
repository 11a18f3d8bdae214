-- `job::next::Next::make_stores` meets its contract: after i turns the slot is as after the job's next i stores, and the job has made as many more.
-- Assumes nothing.
use mathlib.Core.Path.{◌≡◌}
use Rattle.stores.specs.Run.{run}
use Rattle.job.specs.Job.{next_stores, advanced}
use Rattle.job.proofs.next.Next.make_stores.Given as goal

abbrev pub invariant-loop : goal.invariant-loop
invariant-loop l = record {
  job : l.self ≡ advanced l.initial.self l.counter;
  slot : l.slot ≡ run (next_stores l.initial.self l.counter) l.initial.slot;
}
