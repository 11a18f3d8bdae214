-- The contracts of `serialized_len` and `write_answer` leave no choice.
-- Assumes nothing.
use mathlib.Core.Path.{◌≡◌, sym, ◌∙◌}
use mathlib.Core.List.{List}
use Prim.Native.Nat.{ℕ}
use Rattle.answers.specs.Answer.{told}
use Rattle.s2xv2.specs.Length.{length_told}
use Rattle.s2xv2.specs.Write.{write_told}
use Rattle.s2xv2.specs.declared.record.S2Xv2SatelliteDeliverySystem.{S2Xv2SatelliteDeliverySystem}
use Rattle.answers.proofs.Answers.{same-told}
use Rattle.std.specs.Prelude.{Result}
use Rattle.answers.specs.declared.answer.Refusal.{Refusal}

module _ (r : S2Xv2SatelliteDeliverySystem) (tail : List ℕ) where
  -- Two answers of `serialized_len` for the same record and tail are equal.
  pub serialized-len-equal : (a b : Result ℕ Refusal) → told a ≡ length_told r tail → told b ≡ length_told r tail → a ≡ b
  serialized-len-equal a b e d = same-told a b (e ∙ sym d)

  -- Two answers of `write_answer` for the same record, tail and room are equal.
  pub write-answer-equal : (room : ℕ) (a b : Result ℕ Refusal) → told a ≡ write_told r tail room → told b ≡ write_told r tail room → a ≡ b
  write-answer-equal room a b e d = same-told a b (e ∙ sym d)
