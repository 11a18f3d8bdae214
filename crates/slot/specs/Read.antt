-- What a slot reads as. Assumes nothing.
-- `Shown`        what is shown: an answer, a record and a tail
-- `without`      that with no record and no tail
-- `shows_empty`  that of a slot with none of ours
-- `body_of`      the body of the one of ours, by the form of the slot
-- `body_in`      the body that a slot holds
-- `placed`       the reader's answer, with the tail's place in the slot
-- `shows_body`   that of a slot with a body in it
-- `shows_form`   that of any slot, by its form
-- `shown`        what a slot reads as
-- `ReadsAs`      a slot is in good form, and reads so
use Rattle.std.specs.Prelude.{ℕ, ◌+◌, ◌-◌, ◌≡◌, true, List, [], length, get_or, eqb, Some, None, Ok}
use Rattle.wire.specs.Flags.{when}
use Rattle.answers.specs.Answer.{numbers, number_of}
use Rattle.answers.specs.declared.answer.Refusal.TheVariants as R
use Rattle.s2xv2.specs.Default.{default_record}
use Rattle.s2xv2.specs.Read.{Reading, read_of, tail_of}
use Rattle.form.specs.Envelope.{envelope_size}
use Rattle.slot.specs.Answer.{slot_told}
use Rattle.form.specs.Form.{body_at, good_form, form_of}
use Rattle.form.specs.declared.good.Form.{Form}
use Rattle.form.specs.declared.good.Form.TheVariants as F

-- the answer in numbers, the record, and the tail
pub record Shown : Type 0 where
  pub reading : Reading
  pub tail : List ℕ

-- no record and no tail: the Rust's Default, and the empty part
abbrev pub without : List ℕ → Shown
without told = record { reading = record { told = told; body = default_record }; tail = [] }

abbrev pub shows_empty : Shown
shows_empty = without (slot_told (Ok None))

-- the body of the one of ours; no bytes where there is none, or where the slot is out of form
abbrev pub body_of : List ℕ → Form → List ℕ
body_of s F.Size = []
body_of s (F.Broken at) = []
body_of s F.Empty = []
body_of s (F.Ours at) = body_at s at

unfoldable pub body_in : List ℕ → List ℕ
body_in s = body_of s (form_of s)

-- the reader's numbers for a body of so many bytes in the descriptor at a place: an accepted body's tail has its place from the slot's start,
-- and its length
abbrev pub placed : ℕ → ℕ → List ℕ → List ℕ
placed at size told = when (eqb (number_of told) 0) (slot_told (Ok (Some (record { place = get_or told 1 0 + (at + envelope_size); length = size - get_or told 1 0 })))) told

unfoldable pub shows_body : ℕ → List ℕ → Shown
shows_body at body = record {
  reading = record { told = placed at (length body) (read_of body).told; body = (read_of body).body };
  tail = tail_of body;
}

-- WHAT A SLOT READS AS: 6, else 12 with the offset where the form breaks, else empty, else the reader's answer for the body of the one of ours
abbrev pub shows_form : List ℕ → Form → Shown
shows_form s F.Size = without (numbers R.Slot)
shows_form s (F.Broken at) = without (numbers (R.SlotForm at))
shows_form s F.Empty = shows_empty
shows_form s (F.Ours at) = shows_body at (body_at s at)

unfoldable pub shown : List ℕ → Shown
shown s = shows_form s (form_of s)

-- the slot is in good form, and reads so
pub record ReadsAs (s : List ℕ) (x : Shown) : Type 0 where
  pub form : good_form s ≡ true
  pub reads : shown s ≡ x
