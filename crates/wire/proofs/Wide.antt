-- A value that is not too wide for its field is below 2 to the field's width.
-- Assumes nothing.
use mathlib.Core.Path.{◌≡◌}
use mathlib.Core.Bool.{Bool, true, false}
use Prim.Native.Nat.{ℕ, ◌^◌, ◌<◌}
use native.Mathlib.Omega.{arith}
use borrow.Author.Tests.{leb-false}
use Rattle.wire.specs.Flags.{and}
use Rattle.wire.specs.Widths.{wide}

pub narrow : (w v : ℕ) → wide w v ≡ false → v < 2 ^ w
narrow w v e = leb-false _ _ e

pub narrow-if : (t : Bool) (w v : ℕ) → and t (wide w v) ≡ false → t ≡ true → v < 2 ^ w
narrow-if true w v e h = narrow w v e
narrow-if false w v e h = absurd (let z : ◌≡◌ {A = ℕ} 0 1 = cc in omega arith)
