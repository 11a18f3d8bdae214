-- `form::good::walk` meets its contract: descriptors lead to the place that the loop has come to. The bytes left are the measure.
-- Assumes nothing.
use mathlib.Core.Path.{sym, ◌∙◌}
use native.Mathlib.Omega.{arith}
use Rattle.form.specs.Bytewise as U
use Rattle.form.proofs.Loop.{on-stuffing, on-ours, broke-past, broke-second, broke-other, ended-ours, ended-empty}
use Rattle.form.proofs.good.walk.Goals as goal
use Rattle.form.proofs.good.walk.Goals.{then-is_some-via-then-is_some, then-is_some-via-else-is_some+then-not-is_ours}

pub loop-at-init : goal.loop-at-init
loop-at-init c = (omega arith, U.start)

pub returns-then-n-end : goal.returns-then-n-end
returns-then-n-end c = broke-past _ _ _ c.loop-at.invariant.1 (omega arith) (omega arith) (omega arith) (omega arith)

pub returns-then-is_some : goal.returns-then-is_some
returns-then-is_some c =
    let u = c.loop-at.invariant.1 in
    elim c.then-is_some.branch [
      | then-is_some-via-then-is_some w ↦ broke-second _ _ _ u (omega arith) (omega arith) (omega arith) (omega arith) (sym c.is_some.ensures ∙ w.if-is_some.true)
      | then-is_some-via-else-is_some+then-not-is_ours w ↦
          broke-other _ _ _ u (omega arith) (omega arith) (omega arith) (omega arith) (sym w.is_ours.ensures ∙ w.if-not-is_ours.true)
    ]

pub loop-at-preserved-else-not-is_ours : goal.loop-at-preserved-else-not-is_ours
loop-at-preserved-else-not-is_ours c =
    let i = sym c.is_ours.ensures ∙ c.if-not-is_ours.false in
    let o = sym c.is_some.ensures ∙ c.if-is_some.false in
    (omega arith, on-ours _ _ _ c.loop-at.invariant.1 i o _ (omega arith) (omega arith))

pub loop-at-preserved : goal.loop-at-preserved
loop-at-preserved c = (omega arith, on-stuffing _ _ _ c.loop-at.invariant.1 (omega arith) _ (omega arith) (omega arith))

pub returns-then-at-n : goal.returns-then-at-n
returns-then-at-n c = broke-past _ _ _ c.loop-at.invariant.1 (omega arith) (omega arith) (omega arith) (omega arith)

pub returns-in-Some : goal.returns-in-Some
returns-in-Some c = ended-ours _ _ _ c.loop-at.invariant.1 (omega arith) (omega arith) (omega arith) c.in-Some.is

pub returns-in-None : goal.returns-in-None
returns-in-None c = ended-empty _ _ _ c.loop-at.invariant.1 (omega arith) (omega arith) (omega arith) c.in-None.is
