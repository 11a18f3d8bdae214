-- The text of a body, and what the call answers that puts it into a buffer. Assumes nothing.
-- `body_of`      the text of an accepted body, of its length, its record and its tail's length
-- `dump_of`      the text of any body
-- `room`         how many bytes the buffer needs
-- `dump_told`    what the call answers, in numbers
-- `dumped_into`  the buffer afterwards
use Rattle.std.specs.Prelude.{ℕ, List, [], ◌∷◌, ◌++◌, length, drop, ◌==◌, nat_lt}
use Rattle.wire.specs.Flags.{when}
use Rattle.s2xv2.specs.Read.{read_told, read_of, tail_of}
use Rattle.answers.specs.Answer.{numbers, told, number_of}
use Rattle.answers.specs.declared.answer.Refusal.TheVariants as R
use Rattle.s2xv2.specs.declared.record.S2Xv2SatelliteDeliverySystem.{S2Xv2SatelliteDeliverySystem}
use Rattle.lines.specs.Out.{joined}
use Rattle.lines.specs.Line.{codes, line_of, refused_of}
use Rattle.s2xv2_fields.specs.Fields.{core_text, parts_text, superframe_text}
use Rattle.std.specs.Prelude.{Ok}

unfoldable pub body_of : ℕ → S2Xv2SatelliteDeliverySystem → ℕ → List ℕ
body_of length r tail =
    joined (core_text length r ∷ parts_text r ∷ superframe_text r.superframe ∷ line_of (codes "reserved_tail") tail ∷ [])

unfoldable pub dump_of : List ℕ → List ℕ
dump_of s = when (number_of (read_told s) == 0) (body_of (length s) (read_of s).body (length (tail_of s))) (refused_of (read_told s))

-- ---- what the call answers, and what the lent buffer holds then

-- room for the longest text that there is
abbrev pub room : ℕ
room = 2048

unfoldable pub dump_told : List ℕ → List ℕ → List ℕ
dump_told s out = when (nat_lt (length out) room) (numbers (R.Room room (length out))) (told (Ok (length (dump_of s))))

-- the text at the start, and all that follows as it was; of a buffer without the room nothing is changed
unfoldable pub dumped_into : List ℕ → List ℕ → List ℕ
dumped_into s out = when (nat_lt (length out) room) out (dump_of s ++ drop (length (dump_of s)) out)
