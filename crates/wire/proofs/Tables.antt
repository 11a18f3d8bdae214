-- The law of tables: where one test, computed over all rows, finds each to be what a rule says of its place (`follows`), the row at any place is
-- what the rule says (`at_each`).
-- Assumes nothing.
use mathlib.Core.Path.{◌≡◌, refl}
use mathlib.Core.Bool.{Bool, true, false}
use mathlib.Core.List.{List, [], ◌∷◌}
use Prim.Native.Nat.{ℕ, zero, suc, ◌<◌}
use native.Mathlib.Omega.{arith}
use lib.Dec.{eqb}
use lib.ListN.{length, get_or}
use borrow.Author.Tests.{eqb-true}
use Rattle.wire.specs.Flags.{and}
use Rattle.wire.proofs.Flags.{never}

abbrev pub follows : (ℕ → ℕ) → List ℕ → Bool
follows rule [] = true
follows rule (x ∷ xs) = and (eqb x (rule 0)) (follows (λ k. rule (suc k)) xs)

both : (a b : Bool) → and a b ≡ true → (a ≡ true) × (b ≡ true)
both true b e = (refl, e)
both false b e = never e

pub at_each : (rule : ℕ → ℕ) (xs : List ℕ) (k d : ℕ) → follows rule xs ≡ true → k < length xs → get_or xs k d ≡ rule k
at_each rule [] k d e h = absurd (omega arith)
at_each rule (x ∷ xs) zero d e h = eqb-true x (rule 0) (both _ _ e).0
at_each rule (x ∷ xs) (suc k) d e h = at_each (λ k. rule (suc k)) xs k d (both (eqb x (rule 0)) _ e).1 (omega arith)
