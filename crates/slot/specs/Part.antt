-- Where the tail of the record in a slot stands. Assumes nothing.
-- `no_part`    the part of no bytes at the start: what each of the next two is where there is no record
-- `told_part`  the part that a slot's answer tells
-- `slot_part`  the tail of the record in a slot
use Rattle.std.specs.Prelude.{ℕ, List, get_or, eqb}
use Rattle.wire.specs.Flags.{when}
use Rattle.answers.specs.Answer.{number_of}
use Rattle.answers.specs.declared.plain.PlainPart.{PlainPart}
use Rattle.slot.specs.Read.{shown}

abbrev pub no_part : PlainPart
no_part = record { place = 0; length = 0 }

abbrev pub told_part : List ℕ → PlainPart
told_part told = when (eqb (number_of told) 0) (record { place = get_or told 1 0; length = get_or told 2 0 }) no_part

unfoldable pub slot_part : List ℕ → PlainPart
slot_part s = told_part (shown s).reading.told
