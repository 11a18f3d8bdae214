-- `form::good::walk` meets its contract: descriptors lead to the place that the loop has come to. The bytes left are the measure.
-- Assumes nothing.
use Prim.Native.Nat.{◌≤◌, ◌-◌}
use lib.ListN.{length}
use Rattle.form.specs.Bytewise.{Upto}
use Rattle.form.proofs.Loop.{in_hand}
use Rattle.form.proofs.good.walk.Given as goal

abbrev pub invariant-loop-at : goal.invariant-loop-at
invariant-loop-at l = (l.at ≤ length l.s) × Upto l.s l.at (in_hand l.ours)

abbrev pub decreases-loop-at : goal.decreases-loop-at
decreases-loop-at l = length l.s - l.at
