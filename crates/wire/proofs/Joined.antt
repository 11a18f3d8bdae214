-- Two numbers of which each bit is taken together are below a power of two only if both are.
-- Assumes nothing.
use mathlib.Core.Path.{◌≡◌, refl}
use mathlib.Core.Bool.{Bool, true, false}
use Prim.Native.Nat.{ℕ, ◌^◌}
use native.Mathlib.Omega.{arith}
use lib.Dec.{ltb}
use lib.Bits.{bit_or, or_lt, or_add_and, and_le_l, and_le_r}
use borrow.Author.Tests.{lt-ltb, le-ltb, ltb-true, ltb-false}
use Rattle.wire.specs.Flags.{and, joined_of}

pub joined-below : (k a b : ℕ) → ltb (joined_of a b) (2 ^ k) ≡ and (ltb a (2 ^ k)) (ltb b (2 ^ k))
unfolding joined_of
joined-below k a b = go (ltb a (2 ^ k)) (ltb b (2 ^ k)) refl refl
  where
    go : (s t : Bool) → ltb a (2 ^ k) ≡ s → ltb b (2 ^ k) ≡ t → ltb (bit_or a b) (2 ^ k) ≡ and s t
    go true true d e = lt-ltb (bit_or a b) (2 ^ k) (or_lt k a b (ltb-true a (2 ^ k) d) (ltb-true b (2 ^ k) e))
    go true false d e = le-ltb (bit_or a b) (2 ^ k) (omega (arith, ltb-false b (2 ^ k) e, or_add_and a b, and_le_l a b))
    go false t d e = le-ltb (bit_or a b) (2 ^ k) (omega (arith, ltb-false a (2 ^ k) d, or_add_and a b, and_le_r a b))
