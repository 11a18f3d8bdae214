-- `hexadecimal::decode::count` meets its contract: the digits that are left are those of a part and of the parts behind it.
-- Assumes nothing.
use Prim.Native.Nat.{◌≤◌}
use mathlib.Core.Path.{ap}
use native.Mathlib.Omega.{arith}
use lib.ListN.{length}
use Rattle.std.proofs.lemmas.List.Sums.{count_by-le-length}
use Rattle.hexadecimal.specs.Text.{digits_of}
use Rattle.hexadecimal.proofs.Texts.{digits-count, digits_parts, digits-end}
use Rattle.hexadecimal.proofs.decode.count.Goals as goal

pub overflow_add-n : goal.overflow_add-n
overflow_add-n c =
    let s = c.args.text.now in
    let most : length (digits_of s) ≤ length s = rw (digits-count s) (count_by-le-length _ s) in
    omega (arith, digits_parts c.loop-part.part-iterator.rest.now c.in-Some.part.now c.next.new.self.rest.now c.in-Some.ensures.steps.1.0)

pub loop-part-preserved : goal.loop-part-preserved
loop-part-preserved c = (omega arith, omega (arith, digits_parts c.loop-part.part-iterator.rest.now c.in-Some.part.now c.next.new.self.rest.now c.in-Some.ensures.steps.1.0))

pub returns : goal.returns
returns c =
    let end = digits-end c.loop-part.part-iterator.rest.now 0 (omega (arith, c.in-None.ensures.steps.1.0)) in
    omega (arith, ap length end)
