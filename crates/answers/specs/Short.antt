-- Which part of a body is missing. Assumes nothing.
-- `Need`, `◌to◌`  the place of a part in answer 1, with the end that a body has to reach for it
-- `short_told`    a refusal at the first part whose end is not reached, or what else is told
use Rattle.std.specs.Prelude.{ℕ, List, [], ◌∷◌, ltb}
use Rattle.wire.specs.Flags.{when}
use Rattle.answers.specs.Answer.{numbers}
use Rattle.answers.specs.declared.answer.Refusal.{Refusal}

-- the place of a part in answer 1, and the end that the body has to reach for it
pub record Need : Type 0 where
  pub place : ℕ
  pub need : ℕ

infixr 90 ◌to◌
abbrev pub ◌to◌ : ℕ → ℕ → Need
place to need = record { place = place; need = need }

-- for a body of `have` bytes: the refusal at the first part whose end it does not reach, and `otherwise` if there is none
abbrev pub short_told : (Need → Refusal) → ℕ → List Need → List ℕ → List ℕ
short_told short have [] otherwise = otherwise
short_told short have (n ∷ ns) otherwise = when (ltb have n.need) (numbers (short n)) (short_told short have ns otherwise)
