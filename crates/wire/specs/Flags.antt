-- Flags, and what goes by them. Assumes nothing.
-- `when`           one of two values, by a flag
-- `only`           a number where a flag is set, else 0
-- `bit`, `is_one`  a flag as a bit, and back
-- `and`            both are set
-- `not`            it is clear
-- `differ`         one is set and the other is not
-- `joined_of`      the bits of two numbers together
use Rattle.std.specs.Prelude.{ℕ, Bool, true, false, eqb}
use Rattle.std.specs.Int.Bits.{bit_or}

-- a where the flag is set, and c where it is clear
abbrev pub when : {X : Type 0} → Bool → X → X → X
when true a c = a
when false a c = c

-- so many bytes, or a value, if the part is there, and 0 if not
abbrev pub only : Bool → ℕ → ℕ
only there n = when there n 0

-- a flag as a bit, and a bit as a flag
abbrev pub bit : Bool → ℕ
bit true = 1
bit false = 0

abbrev pub is_one : ℕ → Bool
is_one n = eqb n 1

-- both are set
abbrev pub and : Bool → Bool → Bool
and true b = b
and false b = false

-- it is clear
abbrev pub not : Bool → Bool
not true = false
not false = true

-- one is set and the other is not
abbrev pub differ : Bool → Bool → Bool
differ true b = not b
differ false b = b

-- the bits of both numbers
unfoldable pub joined_of : ℕ → ℕ → ℕ
joined_of a b = bit_or a b
