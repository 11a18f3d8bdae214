-- The size of a slot as facts and back; and the size of a slot in good form.
-- Assumes nothing.
use mathlib.Core.Path.{◌≡◌}
use mathlib.Core.List.{List, [], ◌∷◌}
use mathlib.Core.Bool.{true, false}
use Prim.Native.Nat.{ℕ, ◌≤◌}
use native.Mathlib.Omega.{arith}
use lib.ListN.{length}
use lib.Dec.{leb}
use Rattle.form.specs.Form.{form_tests, good_size, good_form}
use Rattle.form.proofs.Tests.{all-each, each_all, fails, from-tests, to-tests}

pub size-facts : (n : ℕ) → good_size n ≡ true → (21 ≤ n) × (n ≤ 257)
unfolding good_size
size-facts n e = let f = all-each (leb 21 n ∷ leb n 257 ∷ []) e in omega (arith, from-tests)

pub facts-size : (n : ℕ) → (21 ≤ n) × (n ≤ 257) → good_size n ≡ true
unfolding good_size
facts-size n f = each_all (leb 21 n ∷ leb n 257 ∷ []) (omega (arith, to-tests))

pub not-size : (n : ℕ) → ((21 ≤ n) × (n ≤ 257) → ⊥) → false ≡ good_size n
not-size n h = fails (good_size n) (λ e. h (size-facts n e))

pub form-size : (s : List ℕ) → good_form s ≡ true → (21 ≤ length s) × (length s ≤ 257)
unfolding good_form
form-size s e = size-facts (length s) (all-each (form_tests s) e).0
