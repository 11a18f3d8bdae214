-- `capi::jobs::s2xv2_step` meets its contract: what crosses is what `advanced` answers, and a step changes nothing of a job but the number of stores made.
-- Assumes nothing.
use mathlib.Core.Path.{ap, ◌∙◌}
use lib.ListN.{length}
use Rattle.job.specs.declared.job.Job.{Job}
use Rattle.job.specs.Job.{with_made}
use Rattle.job.specs.Step.{step_of}
use Rattle.capi.specs.Job.{advanced_out}
use Rattle.capi.specs.declared.jobs.PlainMoved.{PlainMoved}
use Rattle.capi.specs.declared.jobs.PlainStepped.{PlainStepped}
use Rattle.capi.proofs.Step.{step_keeps}
use Rattle.capi.proofs.jobs.s2xv2_step.Goals as goal

pub returns : goal.returns
returns c =
    let j = c.args.j in
    let n = length c.args.s.now in
    let a = c.args.allowance in
    let moved = c.advanced-m.ensures in
    let made = ap {B = PlainStepped} (λ (m : PlainMoved). record { job = with_made j m.made; told = m.told }) moved.told in
    let kept = ap {B = PlainStepped} (λ (x : Job). record { job = x; told = advanced_out (step_of j n a) }) (step_keeps j n a) in
    record {
      told = made ∙ kept;
      left = moved.left;
    }
