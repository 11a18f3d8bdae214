-- A list of a known length, element by element (`spread`), so that a store at a numeral computes.
-- Assumes nothing.
use Rattle.std.specs.Prelude.{◌≡◌, ℕ, zero, suc, List, [], ◌∷◌, length, get_or, drop}
use mathlib.Core.Path.{refl, ap}
use native.Mathlib.Omega.{arith}

-- the first n elements
abbrev pub firsts : ℕ → List ℕ → List ℕ
firsts zero xs = []
firsts (suc n) xs = get_or xs 0 0 ∷ firsts n (drop 1 xs)

pub spread : (n : ℕ) (xs : List ℕ) → length xs ≡ n → firsts n xs ≡ xs
spread zero [] e = refl
spread zero (x ∷ xs) e = absurd (omega (arith, e))
spread (suc n) [] e = absurd (omega (arith, e))
spread (suc n) (x ∷ xs) e = ap (λ (r : List ℕ). x ∷ r) (spread n xs (omega (arith, e)))
