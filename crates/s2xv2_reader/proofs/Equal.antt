-- The contracts of `parse`, `read_into`, `parse_into` and `reserved_tail` leave no choice.
-- Assumes nothing.
use Rattle.std.specs.Prelude.{◌≡◌, ℕ, List, get_or, Result, Ok, Err, Option}
use mathlib.Core.Path.{sym, ap, ap₂, ◌∙◌}
use Rattle.s2xv2.specs.Read.{Reading, read_of, tail_of}
use Rattle.s2xv2.specs.declared.record.S2Xv2SatelliteDeliverySystem.{S2Xv2SatelliteDeliverySystem}
use Rattle.answers.proofs.Answers.{refusal_of, refusal-back, refused}
use Rattle.answers.specs.Answer.{number_of}
use Rattle.answers.specs.Plain.{answer_out}
use Rattle.s2xv2_plain.specs.Output.{numbers_of, bytes_of}
use Rattle.answers.specs.declared.plain.PlainAnswer.{PlainAnswer}
use Rattle.s2xv2_reader.specs.Seen.{seen, end_in}
use Rattle.s2xv2_reader.specs.declared.Parsed.{Parsed}
use Rattle.answers.specs.declared.answer.Refusal.{Refusal}

parsed : ℕ → S2Xv2SatelliteDeliverySystem → Parsed
parsed x y = record { tail_start = x; body = y }

same-seen : (a b : Result Parsed Refusal) → seen a ≡ seen b → a ≡ b
unfolding parsed
same-seen (Ok p) (Ok q) e =
    let t : p.tail_start ≡ q.tail_start = ap (λ (r : Reading). get_or r.told 1 0) e in
    ap Ok (ap₂ parsed t (ap (λ (r : Reading). r.body) e))
same-seen (Ok p) (Err why) e = absurd (refused why (ap (λ (r : Reading). number_of r.told) (sym e)))
same-seen (Err why) (Ok p) e = absurd (refused why (ap (λ (r : Reading). number_of r.told) e))
same-seen (Err x) (Err y) e = ap Err (sym (refusal-back x) ∙ ap (λ (r : Reading). refusal_of r.told) e ∙ refusal-back y)

-- Two answers of `parse` for the same body are equal, and so are the records that they show.
pub parse-equal : (s : List ℕ) (a b : Result Parsed Refusal) → seen a ≡ read_of s → seen b ≡ read_of s → a ≡ b
parse-equal s a b e d = same-seen a b (e ∙ sym d)

-- Two calls of `read_into` for the same body answer alike, and leave the same numbers and the same bytes.
pub read-into-equal : (s v w x y : List ℕ) (p q : Option ℕ) → (p ≡ end_in (read_of s).told) × (v ≡ numbers_of (read_of s).body) × (x ≡ bytes_of (read_of s).body)
    → (q ≡ end_in (read_of s).told) × (w ≡ numbers_of (read_of s).body) × (y ≡ bytes_of (read_of s).body) → (p ≡ q) × (v ≡ w) × (x ≡ y)
read-into-equal s v w x y p q e d = (e.0 ∙ sym d.0, e.1 ∙ sym d.1, e.2 ∙ sym d.2)

-- So do two calls of `parse_into`.
pub parse-into-equal : (s v w x y : List ℕ) (a b : PlainAnswer)
    → (a ≡ answer_out (read_of s).told) × (v ≡ numbers_of (read_of s).body) × (x ≡ bytes_of (read_of s).body)
    → (b ≡ answer_out (read_of s).told) × (w ≡ numbers_of (read_of s).body) × (y ≡ bytes_of (read_of s).body) → (a ≡ b) × (v ≡ w) × (x ≡ y)
parse-into-equal s v w x y a b e d = (e.0 ∙ sym d.0, e.1 ∙ sym d.1, e.2 ∙ sym d.2)

-- Two tails that `reserved_tail` may give back for the same body hold the same bytes.
pub reserved-tail-equal : (s t u : List ℕ) → t ≡ tail_of s → u ≡ tail_of s → t ≡ u
reserved-tail-equal s t u e d = e ∙ sym d
