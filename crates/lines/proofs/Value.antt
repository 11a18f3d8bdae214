-- The digits of a number give it back: `decimal-value`, for all numbers of at most ten digits, by `value_from`, which reads digits from the left.
-- Assumes nothing.
use mathlib.Core.Path.{◌≡◌, refl, sym, ap, ◌∙◌}
use mathlib.Core.Bool.{Bool, true, false}
use mathlib.Core.List.{List, [], ◌∷◌, ◌++◌}
use Prim.Native.Nat.{ℕ, ◌+◌, ◌-◌, ◌*◌, ◌/◌, ◌%◌, ◌<◌}
use native.Mathlib.Nat.{div-div-eq-div-mul, div-eq_of_lt}
use native.Mathlib.Omega.{arith}
use borrow.Author.Tests.{leb-false}
use lib.Dec.{leb}
use Rattle.wire.specs.Flags.{when}
use Rattle.lines.specs.Out.{joined}
use Rattle.lines.specs.Number.{digit_of, three_of, decimal_of}

abbrev pub value_from : ℕ → List ℕ → ℕ
value_from before [] = before
value_from before (digit ∷ digits) = value_from (before * 10 + (digit - 48)) digits

after : (v : ℕ) (xs ys : List ℕ) → value_from v (xs ++ ys) ≡ value_from (value_from v xs) ys
after v [] ys = refl
after v (x ∷ xs) ys = after (v * 10 + (x - 48)) xs ys

-- the digit of a power of ten, behind those of the higher ones
one : (n p : ℕ) → value_from (n / (p * 10)) (digit_of n p) ≡ n / p
unfolding digit_of
one n p = go (leb p n) refl
  where
    q : n / (p * 10) ≡ n / p / 10
    q = sym (div-div-eq-div-mul n p 10)

    go : (b : Bool) → leb p n ≡ b → value_from (n / (p * 10)) (when b ((48 + n / p % 10) ∷ []) []) ≡ n / p
    go true e = omega (arith, q)
    go false e = let z : n / p ≡ 0 = div-eq_of_lt (leb-false _ _ e) in omega (arith, q, z)

three : (n c : ℕ) → value_from (n / (c * 10 * 10 * 10)) (three_of n (c * 10 * 10) (c * 10) c) ≡ n / c
unfolding three_of joined
three n c =
    after (n / (c * 10 * 10 * 10)) (digit_of n (c * 10 * 10)) _
    ∙ ap (λ (v : ℕ). value_from v (digit_of n (c * 10) ++ (digit_of n c ++ []))) (one n (c * 10 * 10))
    ∙ after (n / (c * 10 * 10)) (digit_of n (c * 10)) _
    ∙ ap (λ (v : ℕ). value_from v (digit_of n c ++ [])) (one n (c * 10))
    ∙ after (n / (c * 10)) (digit_of n c) []
    ∙ one n c

pub decimal-value : (n : ℕ) → n < 10_000_000_000 → value_from 0 (decimal_of n) ≡ n
unfolding decimal_of joined
decimal-value n h =
    let z : 0 ≡ n / 10_000_000_000 = sym (div-eq_of_lt h) in
    let a : List ℕ = three_of n 1_000_000_000 100_000_000 10_000_000 in
    let b : List ℕ = three_of n 1_000_000 100_000 10_000 in
    let c : List ℕ = three_of n 1_000 100 10 in
    let d : List ℕ = (48 + n % 10) ∷ [] in
    ap (λ (v : ℕ). value_from v (a ++ (b ++ (c ++ (d ++ []))))) z
    ∙ after (n / 10_000_000_000) a _
    ∙ ap (λ (v : ℕ). value_from v (b ++ (c ++ (d ++ [])))) (three n 10_000_000)
    ∙ after (n / 10_000_000) b _
    ∙ ap (λ (v : ℕ). value_from v (c ++ (d ++ []))) (three n 10_000)
    ∙ after (n / 10_000) c _
    ∙ ap (λ (v : ℕ). value_from v (d ++ [])) (three n 10)
    ∙ omega arith
