-- A tail as a part of what was lent. Assumes nothing.
-- `part_in`    the bytes of a part
-- `tail_part`  the tail of a body: the part of no bytes at the start where there is no record
use Rattle.std.specs.Prelude.{ℕ, ◌-◌, List, length, take, drop, eqb}
use Rattle.wire.specs.Flags.{when}
use Rattle.answers.specs.Answer.{number_of}
use Rattle.s2xv2.specs.Read.{read_told, body_size}
use Rattle.slot.specs.Part.{no_part}
use Rattle.answers.specs.declared.plain.PlainPart.{PlainPart}

abbrev pub part_in : PlainPart → List ℕ → List ℕ
part_in p s = take p.length (drop p.place s)

-- from the body's size to its end
unfoldable pub tail_part : List ℕ → PlainPart
tail_part s = when (eqb (number_of (read_told s)) 0) (record { place = body_size s; length = length s - body_size s }) no_part
