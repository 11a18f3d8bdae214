-- Laws of Table 144c: what holds of the codes that it names, and of all others, holds of every code and its mode (`by_code`).
-- Assumes nothing.
use mathlib.Core.Path.{◌≡◌, refl, sym, subst}
use mathlib.Core.Bool.{false}
use Prim.Native.Nat.{ℕ, zero, suc, ◌≤◌}
use native.Mathlib.Omega.{arith}
use borrow.Author.Tests.{le-ltb, ne_eqb}
use Rattle.s2xv2.specs.Table144c.{mode_of, code_of}
use Rattle.s2xv2.specs.ListA.{misnamed}
use Rattle.s2xv2.specs.declared.mode.S2Xv2Mode.{S2Xv2Mode}
use Rattle.s2xv2.specs.declared.mode.S2Xv2Mode.TheVariants as M

-- a code that the table does not name
pub unnamed : (v : ℕ) → 6 ≤ v → mode_of v ≡ M.Reserved v
unfolding mode_of
unnamed v h =
    simp (
      ne_eqb v 0 (λ d. omega arith),
      ne_eqb v 1 (λ d. omega arith),
      ne_eqb v 2 (λ d. omega arith),
      ne_eqb v 3 (λ d. omega arith),
      ne_eqb v 4 (λ d. omega arith),
      ne_eqb v 5 (λ d. omega arith),
    )

pub by_code : (P : ℕ → S2Xv2Mode → Type 0) → P 0 M.Reserved0 → P 1 M.S2X → P 2 M.S2XTimeSlicing → P 3 M.Reserved3 → P 4 M.S2XSuperframe → P 5 M.S2XSuperframeTimeSlicing
    → ((v : ℕ) → 6 ≤ v → P v (M.Reserved v)) → (n : ℕ) → P n (mode_of n)
unfolding mode_of
by_code P a b c d e f g zero = a
by_code P a b c d e f g (suc zero) = b
by_code P a b c d e f g (suc (suc zero)) = c
by_code P a b c d e f g (suc (suc (suc zero))) = d
by_code P a b c d e f g (suc (suc (suc (suc zero)))) = e
by_code P a b c d e f g (suc (suc (suc (suc (suc zero))))) = f
by_code P a b c d e f g (suc (suc (suc (suc (suc (suc n)))))) =
    let v : ℕ = suc (suc (suc (suc (suc (suc n))))) in
    subst (P v) (sym (unnamed v (omega arith))) (g v (omega arith))

-- a code has a mode, and the mode has the code
pub code-mode : (n : ℕ) → code_of (mode_of n) ≡ n
code-mode = by_code (λ n m. code_of m ≡ n) refl refl refl refl refl refl (λ v h. refl)

-- a code that has a variant of its own gives that variant
pub mode-named : (n : ℕ) → misnamed (mode_of n) ≡ false
mode-named = by_code (λ n m. misnamed m ≡ false) refl refl refl refl refl refl (λ v h. le-ltb v 6 h)
