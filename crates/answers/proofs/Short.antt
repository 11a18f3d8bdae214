-- A body reaches every part exactly where no refusal is told.
-- Assumes nothing.
use mathlib.Core.Path.{◌≡◌, refl}
use mathlib.Core.List.{List, [], ◌∷◌}
use mathlib.Core.Bool.{Bool, true, false}
use Prim.Native.Nat.{ℕ, ◌≤◌}
use lib.Dec.{ltb}
use borrow.Author.Tests.{le-ltb, ltb-false}
use Rattle.wire.specs.Flags.{when}
use Rattle.answers.specs.Answer.{numbers, number_of}
use Rattle.answers.specs.Short.{Need, short_told}
use Rattle.answers.specs.declared.answer.Refusal.{Refusal}
use Rattle.answers.proofs.Answers.{refused}

-- n bytes reach every end of the list
abbrev pub Reaches : ℕ → List Need → Type 0
Reaches n [] = Unit
Reaches n (m ∷ ms) = (m.need ≤ n) × Reaches n ms

module _ (short : Need → Refusal) (n : ℕ) where
  pub reaches-told : (ns : List Need) (o : List ℕ) → Reaches n ns → short_told short n ns o ≡ o
  reaches-told [] o h = refl
  reaches-told (m ∷ ms) o h = simp (le-ltb _ _ h.0) (reaches-told ms o h.1)

  pub told-reaches : (ns : List Need) (o : List ℕ) → number_of (short_told short n ns o) ≡ 0 → Reaches n ns
  told-reaches [] o e = tt
  told-reaches (m ∷ ms) o e = go (ltb n m.need) refl e (told-reaches ms o)
    where
      go : (c : Bool) → ltb n m.need ≡ c → number_of (when c (numbers (short m)) (short_told short n ms o)) ≡ 0
          → (number_of (short_told short n ms o) ≡ 0 → Reaches n ms) → Reaches n (m ∷ ms)
      go true d z more = absurd (refused (short m) z)
      go false d z more = (ltb-false _ _ d, more z)
