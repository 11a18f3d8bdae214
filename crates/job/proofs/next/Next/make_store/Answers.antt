-- `job::next::Next::make_store` meets its contract: one call computes the store, and one makes it, inside the slot.
-- Assumes nothing.
use mathlib.Core.Path.{subst}
use native.Mathlib.Omega.{arith}
use Rattle.job.specs.Job.{Fair}
use Rattle.job.proofs.Places.{next-inside}
use Rattle.job.proofs.next.Next.make_store.Goals as goal

pub make-requires : goal.make-requires
make-requires c =
    let p = c.requires in
    rw c.store.ensures (let h = next-inside _ (subst Fair c.self.view_is c.self.invariant) p.0 in omega arith)
