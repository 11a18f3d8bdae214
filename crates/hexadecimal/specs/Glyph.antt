-- What one character of hexadecimal text stands for. Assumes nothing.
-- `within`    a code lies in a range, both ends counted
-- `is_blank`  a space, a tab, a newline or a carriage return
-- `glyph_of`  a character as a digit, a blank or anything else
-- `digit_in`  the digit that it is, as a list of one, or of none
-- `is_digit`  it is a digit
-- `is_other`  it is neither a digit nor a blank
use Rattle.std.specs.Prelude.{ℕ, ◌-◌, List, [], ◌∷◌, Bool, true, false, ◌&&◌, ◌||◌, leb, eqb}
use Rattle.wire.specs.Flags.{when}
use Rattle.hexadecimal.specs.declared.glyph.Glyph.{Glyph}
use Rattle.hexadecimal.specs.declared.glyph.Glyph.TheVariants as G

abbrev pub within : ℕ → ℕ → ℕ → Bool
within low high c = leb low c && leb c high

unfoldable pub is_blank : ℕ → Bool
is_blank c = eqb c 32 || (eqb c 9 || (eqb c 10 || eqb c 13))

-- '0' to '9', 'A' to 'F', 'a' to 'f', a blank, or anything else
unfoldable pub glyph_of : ℕ → Glyph
glyph_of c =
    when (within 48 57 c) (G.Digit (c - 48))
    (when (within 65 70 c) (G.Digit (c - 55))
    (when (within 97 102 c) (G.Digit (c - 87))
    (when (is_blank c) G.Blank G.Other)))

abbrev pub digit_in : Glyph → List ℕ
digit_in (G.Digit d) = d ∷ []
digit_in G.Blank = []
digit_in G.Other = []

abbrev pub is_digit : Glyph → Bool
is_digit (G.Digit d) = true
is_digit G.Blank = false
is_digit G.Other = false

abbrev pub is_other : Glyph → Bool
is_other (G.Digit d) = false
is_other G.Blank = false
is_other G.Other = true
