-- Laws of the flag that says that a mode is `Reserved`: it is 0 or 1 (`reserved-small`), and 0 for a code that the table names (`reserved-named`).
-- Assumes nothing.
use mathlib.Core.Path.{◌≡◌, refl}
use Prim.Native.Nat.{ℕ, ◌≤◌, ◌<◌}
use native.Mathlib.Omega.{arith}
use Rattle.s2xv2.specs.Table144c.{mode_of}
use Rattle.s2xv2.proofs.Modes.{by_code}
use Rattle.s2xv2.specs.declared.mode.S2Xv2Mode.{S2Xv2Mode}
use Rattle.s2xv2.specs.declared.mode.S2Xv2Mode.TheVariants as M
use Rattle.s2xv2_plain.specs.Output.{is_reserved}

pub reserved-small : (m : S2Xv2Mode) → is_reserved m < 2
reserved-small M.Reserved0 = omega arith
reserved-small M.S2X = omega arith
reserved-small M.S2XTimeSlicing = omega arith
reserved-small M.Reserved3 = omega arith
reserved-small M.S2XSuperframe = omega arith
reserved-small M.S2XSuperframeTimeSlicing = omega arith
reserved-small (M.Reserved v) = omega arith

pub reserved-named : (n : ℕ) → n ≤ 5 → is_reserved (mode_of n) ≡ 0
reserved-named =
    by_code (λ n m. n ≤ 5 → is_reserved m ≡ 0) (λ h. refl) (λ h. refl) (λ h. refl) (λ h. refl) (λ h. refl) (λ h. refl)
    (λ v h k. absurd (omega arith))
