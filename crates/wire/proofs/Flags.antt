-- Laws of flags: `is-bit` and `bit_is` go between a flag and its bit and back, `bit-small` bounds the bit, `and_assoc`, `and-true` and
-- `and-false` are of flags that are joined, and `never` says that clear is not set.
-- Assumes nothing.
use mathlib.Core.Path.{◌≡◌, refl}
use mathlib.Core.Bool.{Bool, true, false}
use Prim.Native.Nat.{ℕ, zero, suc, ◌<◌}
use native.Mathlib.Omega.{arith}
use Rattle.wire.specs.Flags.{bit, is_one, and}

pub never : {X : Type 0} → false ≡ true → X
never e = absurd (let z : ◌≡◌ {A = ℕ} 0 1 = cc in omega arith)

pub is-bit : (b : Bool) → is_one (bit b) ≡ b
is-bit true = refl
is-bit false = refl

pub bit_is : (b : ℕ) → b < 2 → bit (is_one b) ≡ b
bit_is zero h = refl
bit_is (suc zero) h = refl
bit_is (suc (suc n)) h = absurd (omega arith)

pub bit-small : (b : Bool) → bit b < 2
bit-small true = omega arith
bit-small false = omega arith

pub and_assoc : (a b c : Bool) → and (and a b) c ≡ and a (and b c)
and_assoc true b c = refl
and_assoc false b c = refl

pub and-true : (t : Bool) → and t true ≡ t
and-true true = refl
and-true false = refl

pub and-false : (t : Bool) → and t false ≡ false
and-false true = refl
and-false false = refl
