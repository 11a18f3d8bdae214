-- Any two answers that a contract of this crate allows are equal, and any two final slots: the numbers lose nothing, since `answer_of` gives the answer back.
-- Assumes nothing.
use mathlib.Core.Path.{◌≡◌, refl, sym, ap, ◌∙◌}
use mathlib.Core.List.{List}
use Prim.Native.Nat.{ℕ}
use lib.ListN.{length, get_or}
use lib.Dec.{eqb}
use Rattle.wire.specs.Flags.{when}
use Rattle.answers.specs.Answer.{number_of}
use Rattle.s2xv2.specs.Read.{Reading}
use Rattle.s2xv2.specs.declared.record.S2Xv2SatelliteDeliverySystem.{S2Xv2SatelliteDeliverySystem}
use Rattle.answers.proofs.Answers.{refusal_of, refusal-back, refused-number}
use Rattle.s2xv2_plain.specs.Output.{numbers_of, bytes_of}
use Rattle.std.specs.Prelude.{Option, Some, None, Result, Ok, Err}
use Rattle.answers.specs.declared.answer.Refusal.{Refusal}
use Rattle.answers.specs.declared.plain.PlainPart.{PlainPart}
use Rattle.slot.specs.declared.answer.SlotRecord.{SlotRecord}
use Rattle.slot.specs.Answer.{slot_told, slot_seen, made_told}
use Rattle.slot.specs.Read.{body_in, shown}
use Rattle.slot.specs.Empty.{empty_told, emptied}

-- number 0 with nothing more is empty, number 0 with more is accepted, and any other number is a refusal's
answer_of : List ℕ → Result (Option PlainPart) Refusal
answer_of l = when (eqb (number_of l) 0) (Ok (when (eqb (length l) 1) None (Some (record { place = get_or l 1 0; length = get_or l 2 0 })))) (Err (refusal_of l))

answer_back : (a : Result (Option PlainPart) Refusal) → answer_of (slot_told a) ≡ a
unfolding answer_of
answer_back (Ok (Some tail)) = refl
answer_back (Ok None) = refl
answer_back (Err why) = rw (refused-number why, refusal-back why)

-- Two answers with the same numbers are equal.
pub same-slot-told : (a b : Result (Option PlainPart) Refusal) → slot_told a ≡ slot_told b → a ≡ b
same-slot-told a b e = sym (answer_back a) ∙ ap answer_of e ∙ answer_back b

-- the same of one with a record, and of one with nothing
with_body : Result (Option PlainPart) Refusal → S2Xv2SatelliteDeliverySystem → Result (Option SlotRecord) Refusal
with_body (Ok (Some tail)) body = Ok (Some (record { tail = tail; body = body }))
with_body (Ok None) body = Ok None
with_body (Err why) body = Err why

record_of : Reading → Result (Option SlotRecord) Refusal
record_of x = with_body (answer_of x.told) x.body

record_back : (a : Result (Option SlotRecord) Refusal) → record_of (slot_seen a) ≡ a
unfolding record_of with_body
record_back (Ok (Some r)) = rw (answer_back (Ok (Some r.tail))) refl
record_back (Ok None) = rw (answer_back (Ok None)) refl
record_back (Err why) = rw (answer_back (Err why)) refl

pub same_seen : (a b : Result (Option SlotRecord) Refusal) → slot_seen a ≡ slot_seen b → a ≡ b
same_seen a b e = sym (record_back a) ∙ ap record_of e ∙ record_back b

unmade : Result (Option PlainPart) Refusal → Result (Unit {0}) Refusal
unmade (Ok tail) = Ok tt
unmade (Err why) = Err why

made_back : (a : Result (Unit {0}) Refusal) → unmade (answer_of (made_told a)) ≡ a
unfolding unmade
made_back (Ok done) = rw (answer_back (Ok None)) refl
made_back (Err why) = rw (answer_back (Err why)) refl

pub same-made : (a b : Result (Unit {0}) Refusal) → made_told a ≡ made_told b → a ≡ b
same-made a b e = sym (made_back a) ∙ ap (λ l. unmade (answer_of l)) e ∙ made_back b

-- `read::read`
pub read-equal : (s : List ℕ) (a b : Result (Option SlotRecord) Refusal) → slot_seen a ≡ (shown s).reading → slot_seen b ≡ (shown s).reading → a ≡ b
read-equal s a b p q = same_seen a b (p ∙ sym q)

-- `read::read_into`: the answer, and what is stored
pub read-into-equal : (s v w x y : List ℕ) (a b : Result (Option PlainPart) Refusal)
    → (slot_told a ≡ (shown s).reading.told) × (v ≡ numbers_of (shown s).reading.body) × (x ≡ bytes_of (shown s).reading.body)
    → (slot_told b ≡ (shown s).reading.told) × (w ≡ numbers_of (shown s).reading.body) × (y ≡ bytes_of (shown s).reading.body) → (a ≡ b) × (v ≡ w) × (x ≡ y)
read-into-equal s v w x y a b p q = (same-slot-told a b (p.0 ∙ sym q.0), p.1 ∙ sym q.1, p.2 ∙ sym q.2)

-- `read::body_in` and `read::reserved_tail`: the bytes of the part
pub body-in-equal : (s a b : List ℕ) → a ≡ body_in s → b ≡ body_in s → a ≡ b
body-in-equal s a b p q = p ∙ sym q

pub reserved-tail-equal : (s a b : List ℕ) → a ≡ (shown s).tail → b ≡ (shown s).tail → a ≡ b
reserved-tail-equal s a b p q = p ∙ sym q

-- `empty::make_empty`: the answer, and the slot
pub make-empty-equal : (s : List ℕ) (a b : Result (Unit {0}) Refusal) → made_told a ≡ empty_told (length s) → made_told b ≡ empty_told (length s) → a ≡ b
make-empty-equal s a b p q = same-made a b (p ∙ sym q)

pub make-empty-slot-equal : (s x y : List ℕ) → x ≡ emptied s → y ≡ emptied s → x ≡ y
make-empty-slot-equal s x y p q = p ∙ sym q
