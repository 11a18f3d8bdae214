-- A number in decimal digits, in ASCII. The numbers of a dump are below 2 ^ 32: ten digits hold them. Assumes nothing.
-- `digit_of`    the digit of a power of ten, none for a number below it
-- `three_of`    the digits of three powers
-- `decimal_of`  all digits of a number
use Rattle.std.specs.Prelude.{ℕ, ◌+◌, ◌/◌, ◌%◌, List, [], ◌∷◌, leb}
use Rattle.wire.specs.Flags.{when}
use Rattle.lines.specs.Out.{joined}

-- the digit of a power of ten, for a number that reaches it
unfoldable pub digit_of : ℕ → ℕ → List ℕ
digit_of n power = when (leb power n) ((48 + n / power % 10) ∷ []) []

unfoldable pub three_of : ℕ → ℕ → ℕ → ℕ → List ℕ
three_of n a b c = joined (digit_of n a ∷ digit_of n b ∷ digit_of n c ∷ [])

-- .. from the highest power on; the units have their digit in any case
unfoldable pub decimal_of : ℕ → List ℕ
decimal_of n =
    joined
    (three_of n 1_000_000_000 100_000_000 10_000_000
    ∷ three_of n 1_000_000 100_000 10_000
    ∷ three_of n 1_000 100 10
    ∷ ((48 + n % 10) ∷ [])
    ∷ [])
