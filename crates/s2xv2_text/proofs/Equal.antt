-- The contract of `dump` leaves no choice: the numbers of an answer lose nothing, and the buffer is given by an equation.
-- Assumes nothing.
use Rattle.std.specs.Prelude.{◌≡◌, ℕ, List}
use mathlib.Core.Path.{sym, ◌∙◌}
use Rattle.answers.specs.Answer.{told}
use Rattle.answers.proofs.Answers.{same-told}
use Rattle.s2xv2_text.specs.Dump.{dump_told, dumped_into}
use Rattle.std.specs.Prelude.{Result}
use Rattle.answers.specs.declared.answer.Refusal.{Refusal}

module _ (s out : List ℕ) where
  -- Two answers of `dump` for the same body and buffer are equal, and so are two buffers that it may leave.
  pub dump-equal : (a b : Result ℕ Refusal) → told a ≡ dump_told s out → told b ≡ dump_told s out → a ≡ b
  dump-equal a b e d = same-told a b (e ∙ sym d)

  pub dump-leaves : (x y : List ℕ) → x ≡ dumped_into s out → y ≡ dumped_into s out → x ≡ y
  dump-leaves x y e d = e ∙ sym d
