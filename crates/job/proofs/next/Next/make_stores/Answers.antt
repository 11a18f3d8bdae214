-- `job::next::Next::make_stores` meets its contract: after i turns the slot is as after the job's next i stores, and the job has made as many more.
-- Assumes nothing.
use mathlib.Core.Path.{refl, subst, ◌∙◌}
use native.Mathlib.Omega.{arith}
use Rattle.stores.specs.Run.{run}
use Rattle.job.specs.Job.{Fair}
use Rattle.job.proofs.Advancing.{advanced-none, advanced-more, stores-more}
use Rattle.job.proofs.next.Next.make_stores.Goals as goal

pub loop-init : goal.loop-init
unfolding run
loop-init c = record { job = advanced-none _; slot = refl }

pub loop-preserved : goal.loop-preserved
loop-preserved c =
    let L = c.loop in
    let f = subst Fair L.invariant.job c.make_store.ensures.fair in
    record {
      job = c.make_store.ensures.job ∙ rw L.invariant.job (advanced-more _ _);
      slot = c.make_store.ensures.slot ∙ rw (L.invariant.job, L.invariant.slot) (stores-more _ _ _ f (omega arith));
    }
