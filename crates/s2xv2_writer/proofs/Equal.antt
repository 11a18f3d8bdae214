-- The contracts of `serialize_into` and `serialize_plain` leave no choice.
-- Assumes nothing.
use mathlib.Core.Path.{◌≡◌, sym, ◌∙◌}
use mathlib.Core.List.{List}
use Prim.Native.Nat.{ℕ}
use Rattle.answers.specs.Answer.{told}
use Rattle.s2xv2.specs.Write.{write_told, written}
use Rattle.s2xv2.specs.declared.record.S2Xv2SatelliteDeliverySystem.{S2Xv2SatelliteDeliverySystem}
use Rattle.answers.proofs.Answers.{same-told}
use Rattle.s2xv2_plain.specs.Input.{meant}
use Rattle.answers.specs.Plain.{answer_out}
use Rattle.answers.specs.declared.plain.PlainAnswer.{PlainAnswer}
use Rattle.std.specs.Prelude.{Result}
use Rattle.answers.specs.declared.answer.Refusal.{Refusal}

module _ (r : S2Xv2SatelliteDeliverySystem) (tail : List ℕ) where
  -- Two answers of `serialize_into` for the same record, tail and room are equal, and so are two buffers that it may leave of one.
  pub serialize-into-equal : (room : ℕ) (a b : Result ℕ Refusal) → told a ≡ write_told r tail room → told b ≡ write_told r tail room → a ≡ b
  serialize-into-equal room a b e d = same-told a b (e ∙ sym d)

  pub serialize-into-leaves : (buf x y : List ℕ) → x ≡ written r tail buf → y ≡ written r tail buf → x ≡ y
  serialize-into-leaves buf x y e d = e ∙ sym d

module _ (ws bs tail : List ℕ) where
  -- The same of `serialize_plain`, for the same plain numbers.
  pub serialize-plain-equal : (room : ℕ) (a b : PlainAnswer) → a ≡ answer_out (write_told (meant ws bs) tail room) → b ≡ answer_out (write_told (meant ws bs) tail room) → a ≡ b
  serialize-plain-equal room a b e d = e ∙ sym d

  pub serialize-plain-leaves : (buf x y : List ℕ) → x ≡ written (meant ws bs) tail buf → y ≡ written (meant ws bs) tail buf → x ≡ y
  serialize-plain-leaves = serialize-into-leaves (meant ws bs) tail
