-- `hexadecimal::decode::count` meets its contract. The loop's invariant: the digits counted, and those of the parts that
-- are left, are the text's.
-- Assumes nothing.
use Prim.Native.Nat.{◌+◌}
use mathlib.Core.Path.{◌≡◌}
use lib.ListN.{length}
use Rattle.hexadecimal.specs.Text.{digits_of}
use Rattle.hexadecimal.proofs.decode.count.Given as goal

abbrev pub invariant-loop-part : goal.invariant-loop-part
invariant-loop-part l = (l.part-iterator.size ≡ 240) × (l.n + length (digits_of l.part-iterator.rest.now) ≡ length (digits_of l.text))
