-- The lines of a dump. Assumes nothing.
-- `codes`             a quoted text as the codes of its characters
-- `space`, `newline`  two such texts
-- `line_of`           a name, a space, a number and a newline
-- `word_of`           a number with a space before it
-- `words`             that of each number of a list
-- `words_of`          these as one text
-- `refused_of`        the one line of a refused body
use Rattle.std.specs.Prelude.{ℕ, List, [], ◌∷◌}
use Prim.Native.Char.{code}
use Prim.Native.String.{String}
use Prim.Native.String.{[] as none, ◌∷◌ as ◌then◌}
use Rattle.lines.specs.Out.{joined}
use Rattle.lines.specs.Number.{decimal_of}

abbrev pub codes : String → List ℕ
codes none = []
codes (c then s) = code c ∷ codes s

abbrev pub space : List ℕ
space = 32 ∷ []

abbrev pub newline : List ℕ
newline = 10 ∷ []

unfoldable pub line_of : List ℕ → ℕ → List ℕ
line_of name value = joined (name ∷ space ∷ decimal_of value ∷ newline ∷ [])

unfoldable pub word_of : ℕ → List ℕ
word_of n = joined (space ∷ decimal_of n ∷ [])

abbrev pub words : List ℕ → List (List ℕ)
words [] = []
words (n ∷ ns) = word_of n ∷ words ns

unfoldable pub words_of : List ℕ → List ℕ
words_of ns = joined (words ns)

-- the answer's number, and what it tells
unfoldable pub refused_of : List ℕ → List ℕ
refused_of told = joined (codes "refused" ∷ words_of told ∷ newline ∷ [])
