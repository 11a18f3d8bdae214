-- Hexadecimal text: what it decodes to, and which texts are refused. Assumes nothing.
-- `digits_of`     the digits of a text, without its blanks
-- `pairs_of`      two digits make a byte, the first one counting sixteen times
-- `hex_bytes`     the bytes that a text stands for
-- `other_at`      the offset of the first character that is neither a digit nor a blank, or the text's length
-- `is_sound`      there is no such character, and no byte of one digit
-- `fault_of`      why a text is refused
-- `answer_of`     what the call answers
-- `decoded_into`  the buffer afterwards
use Rattle.std.specs.Prelude.{ℕ, ◌+◌, ◌*◌, ◌%◌, List, [], ◌∷◌, ◌++◌, Bool, ◌&&◌, length, leb, ltb, eqb, Result, Ok, Err}
use Rattle.std.specs.List.{position_or_len}
use Rattle.wire.specs.Flags.{when}
use Rattle.lines.specs.Out.{◌from◌, write}
use Rattle.hexadecimal.specs.Glyph.{glyph_of, digit_in, is_other}
use Rattle.hexadecimal.specs.declared.decode.NotHex.{NotHex}
use Rattle.hexadecimal.specs.declared.decode.NotHex.TheVariants as N

unfoldable pub digits_of : List ℕ → List ℕ
digits_of [] = []
digits_of (c ∷ cs) = digit_in (glyph_of c) ++ digits_of cs

unfoldable pub pairs_of : List ℕ → List ℕ
pairs_of [] = []
pairs_of (high ∷ []) = []
pairs_of (high ∷ low ∷ ds) = (high * 16 + low) ∷ pairs_of ds

abbrev pub hex_bytes : List ℕ → List ℕ
hex_bytes text = pairs_of (digits_of text)

abbrev pub other_at : List ℕ → ℕ
other_at text = position_or_len (λ c. is_other (glyph_of c)) text

-- every character is a digit or a blank, and the digits are even in number
unfoldable pub is_sound : List ℕ → Bool
is_sound text = leb (length text) (other_at text) && eqb (length (digits_of text) % 2) 0

-- ---- what the call answers, and what the lent buffer holds then

-- the first character that is neither a digit nor a blank, by its offset; where there is none, the text ends inside a byte
unfoldable pub fault_of : List ℕ → NotHex
fault_of text = when (ltb (other_at text) (length text)) (N.Character (other_at text)) (N.Odd (length text))

-- how many bytes are stored, or the fault
unfoldable pub answer_of : List ℕ → List ℕ → Result ℕ NotHex
answer_of text out = when (is_sound text) (Ok (write (out from 0) (hex_bytes text)).at) (Err (fault_of text))

-- the bytes from its start on, as far as it reaches; for a refused text as it was
unfoldable pub decoded_into : List ℕ → List ℕ → List ℕ
decoded_into text out = when (is_sound text) (write (out from 0) (hex_bytes text)).bytes out
