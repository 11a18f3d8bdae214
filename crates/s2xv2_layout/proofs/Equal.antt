-- The contract of `missing` leaves no choice: it fixes the numbers, and they fix the answer.
-- Assumes nothing.
use mathlib.Core.Path.{◌≡◌, sym, ◌∙◌}
use mathlib.Core.List.{[], ◌∷◌}
use Prim.Native.Nat.{ℕ}
use Rattle.answers.specs.Answer.{told}
use Rattle.answers.specs.Short.{short_told}
use Rattle.answers.proofs.Answers.{same-told}
use Rattle.s2xv2_layout.specs.Layout.{needs_to, short_to}
use Rattle.s2xv2_layout.specs.declared.ends.Ends.{Ends}
use Rattle.std.specs.Prelude.{Result}
use Rattle.answers.specs.declared.answer.Refusal.{Refusal}

-- Two answers of `missing` for the same length and ends are equal.
pub missing-equal : (have : ℕ) (x : Ends) (a b : Result ℕ Refusal) → told a ≡ short_told (short_to have x) have (needs_to x) (0 ∷ x.superframe ∷ [])
    → told b ≡ short_told (short_to have x) have (needs_to x) (0 ∷ x.superframe ∷ []) → a ≡ b
missing-equal have x a b e d = same-told a b (e ∙ sym d)
