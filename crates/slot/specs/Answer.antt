-- What reading a slot answers, in numbers. Assumes nothing.
-- `slot_told`  of an answer that says where the tail is
-- `slot_seen`  of one with the record, which goes beside the numbers
-- `made_told`  of the answer of the call that makes a slot empty
use Rattle.std.specs.Prelude.{ℕ, List, [], ◌∷◌, Option, Some, None, Result, Ok, Err}
use Rattle.answers.specs.Answer.{numbers}
use Rattle.answers.specs.declared.answer.Refusal.{Refusal}
use Rattle.answers.specs.declared.plain.PlainPart.{PlainPart}
use Rattle.s2xv2.specs.Default.{default_record}
use Rattle.s2xv2.specs.Read.{Reading}
use Rattle.slot.specs.declared.answer.SlotRecord.{SlotRecord}

-- accepted tells the tail's place and length in the slot; empty is no refusal, and tells nothing more
abbrev pub slot_told : Result (Option PlainPart) Refusal → List ℕ
slot_told (Ok (Some tail)) = 0 ∷ tail.place ∷ tail.length ∷ []
slot_told (Ok None) = 0 ∷ []
slot_told (Err why) = numbers why

-- where no record is shown, it is the Rust's Default
abbrev pub slot_seen : Result (Option SlotRecord) Refusal → Reading
slot_seen (Ok (Some r)) = record { told = slot_told (Ok (Some r.tail)); body = r.body }
slot_seen (Ok None) = record { told = slot_told (Ok None); body = default_record }
slot_seen (Err why) = record { told = slot_told (Err why); body = default_record }

abbrev pub made_told : Result (Unit {0}) Refusal → List ℕ
made_told (Ok done) = slot_told (Ok None)
made_told (Err why) = slot_told (Err why)
