-- What a caller sees of a reading. Assumes nothing.
-- `seen`    of what `parse` answers, the numbers of its answer and its record; a refusal shows the default record
-- `end_in`  where the tail starts, by the numbers of an answer
use Rattle.std.specs.Prelude.{ℕ, List, [], ◌∷◌, ◌==◌, slice_index, Result, Ok, Err, Option, Some, None}
use Rattle.wire.specs.Flags.{when}
use Rattle.answers.specs.Answer.{numbers, number_of}
use Rattle.answers.specs.declared.answer.Refusal.{Refusal}
use Rattle.s2xv2.specs.Default.{default_record}
use Rattle.s2xv2.specs.Read.{Reading}
use Rattle.s2xv2_reader.specs.declared.Parsed.{Parsed}

abbrev pub seen : Result Parsed Refusal → Reading
seen (Ok p) = record { told = 0 ∷ p.tail_start ∷ []; body = p.body }
seen (Err why) = record { told = numbers why; body = default_record }

-- none for a refusal
abbrev pub end_in : List ℕ → Option ℕ
end_in told = when (number_of told == 0) (Some (slice_index told 1)) None
