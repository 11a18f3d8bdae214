-- A field of bits in a list of bytes, high bits first, as in the standard's tables. Bytes behind the end count as 0.
-- All are `abbrev`s: at numerals they compute to arithmetic, `bits s 4 4 1` to `get_or s 4 0 / 8 % 2`. Assumes nothing.
-- `at`      the place so many bytes behind another
-- `number`  bytes as one number
-- `span`    how many bytes a field touches
-- `bits`    `bits s a o w`: the field of w bits that starts o bits after the start of byte a
use Rattle.std.specs.Prelude.{ℕ, zero, suc, ◌+◌, ◌-◌, ◌*◌, ◌/◌, ◌%◌, ◌^◌, List, get_or}

-- a + k, which at k = 0 is a itself (`a + 0` does not compute to `a`)
abbrev pub at : ℕ → ℕ → ℕ
at a zero = a
at a (suc k) = a + suc k

-- the n bytes of s from byte a on as one number, the first byte the highest
abbrev pub number : List ℕ → ℕ → ℕ → ℕ
number s a zero = 0
number s a (suc zero) = get_or s a 0
number s a (suc (suc n)) = number s a (suc n) * 256 + get_or s (at a (suc n)) 0

-- how many bytes a field touches that starts o bits into its part and is w bits wide
abbrev pub span : ℕ → ℕ → ℕ
span o w = (o % 8 + w + 7) / 8

-- the bytes that the field touches as one number, less the bits right of it and left of it
abbrev pub bits : List ℕ → ℕ → ℕ → ℕ → ℕ
bits s a o w = number s (at a (o / 8)) (span o w) / 2 ^ (span o w * 8 - (o % 8 + w)) % 2 ^ w
