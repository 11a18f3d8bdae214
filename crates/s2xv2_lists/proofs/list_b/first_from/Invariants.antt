-- `s2xv2_lists::list_b::first_from` meets its contract. The invariant: none of the first i tests holds, so that the place is one of those that are left.
-- Assumes nothing.
use Rattle.std.proofs.Common.{◌≡◌, ◌+◌, drop}
use Rattle.answers.specs.Tests.{first_from}
use Rattle.s2xv2_lists.proofs.list_b.first_from.Given as goal

abbrev pub invariant-loop-i : goal.invariant-loop-i
invariant-loop-i l = first_from l.place l.tests ≡ first_from (l.place + l.i) (drop l.i l.tests)
