-- A number that is small is told as it is.
-- Assumes nothing.
use mathlib.Core.Path.{◌≡◌, refl}
use Prim.Native.Nat.{ℕ, ◌≤◌}
use borrow.Author.Tests.{le-ltb}
use Rattle.answers.specs.Answer.{saturated}

pub told-as-is : (n : ℕ) → n ≤ 65535 → saturated n ≡ n
told-as-is n h = rw (le-ltb 65535 n h) refl
