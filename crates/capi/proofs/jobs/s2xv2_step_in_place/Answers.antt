-- `capi::jobs::s2xv2_step_in_place` meets its contract: the step of the parts is the step of the job, of which only the number of stores made changes.
-- Assumes nothing.
use Rattle.std.proofs.Common.{length, ap, ◌∙◌}
use Rattle.job.specs.declared.job.Job.{Job}
use Rattle.job.specs.Job.{with_made}
use Rattle.capi.specs.declared.jobs.PlainAdvanced.{PlainAdvanced}
use Rattle.capi.specs.declared.jobs.PlainMoved.{PlainMoved}
use Rattle.capi.proofs.Step.{step_keeps}
use Rattle.capi.proofs.jobs.s2xv2_step_in_place.Goals as goal

pub returns : goal.returns
returns c =
    let j = c.args.job.now in
    let moved = c.advanced-m.ensures in
    record {
      told = ap {B = PlainAdvanced} (λ (m : PlainMoved). m.told) moved.told;
      job = ap {B = Job} (λ (m : PlainMoved). with_made j m.made) moved.told ∙ step_keeps j (length c.args.s.now) c.args.allowance;
      left = moved.left;
    }
