-- A list of tests whose first place is 0 has none that holds (`Clear`), and the other way round; the first place of two lists one after the other.
-- Assumes nothing.
use mathlib.Core.Path.{◌≡◌, refl, sym, ap, ◌∙◌}
use mathlib.Core.List.{List, [], ◌∷◌, ◌++◌}
use mathlib.Core.Bool.{Bool, true, false}
use Prim.Native.Nat.{ℕ, suc, ◌+◌}
use native.Mathlib.Omega.{arith}
use native.Mathlib.Nat.{add-zero}
use lib.ListN.{length}
use lib.Dec.{eqb}
use borrow.Author.Tests.{ne_eqb}
use Rattle.wire.specs.Flags.{when}
use Rattle.std.specs.Prelude.{Some, None}
use Rattle.std.specs.Option.{option_or}
use Rattle.answers.specs.Tests.{first_from, place_in}

-- no test of the list holds
abbrev pub Clear : List Bool → Type 0
Clear [] = Unit
Clear (t ∷ ts) = (t ≡ false) × Clear ts

pub first-clear : (p : ℕ) (ts : List Bool) → first_from (suc p) ts ≡ 0 → Clear ts
first-clear p [] e = tt
first-clear p (true ∷ ts) e = absurd (omega arith)
first-clear p (false ∷ ts) e = (refl, first-clear (suc p) ts e)

pub clear_first : (p : ℕ) (ts : List Bool) → Clear ts → first_from p ts ≡ 0
clear_first p [] h = refl
clear_first p (t ∷ ts) h = simp h.0 (clear_first (suc p) ts h.1)

-- parts of a list of which none holds
pub clear-left : (ts us : List Bool) → Clear (ts ++ us) → Clear ts
clear-left [] us h = tt
clear-left (t ∷ ts) us h = (h.0, clear-left ts us h.1)

pub clear-right : (ts us : List Bool) → Clear (ts ++ us) → Clear us
clear-right [] us h = h
clear-right (t ∷ ts) us h = clear-right ts us h.1

-- the first place of two lists is that of the first list, or of the second if the first has none
pub first-append : (p : ℕ) (ts us : List Bool) → first_from (suc p) (ts ++ us) ≡ when (eqb (first_from (suc p) ts) 0) (first_from (suc p + length ts) us) (first_from (suc p) ts)
first-append p [] us = ap (λ (k : ℕ). first_from k us) (sym (add-zero (suc p)))
first-append p (true ∷ ts) us = simp (ne_eqb (suc p) 0 (λ d. omega arith))
first-append p (false ∷ ts) us = first-append (suc p) ts us ∙ ap (λ (k : ℕ). when (eqb (first_from (suc (suc p)) ts) 0) (first_from k us) (first_from (suc (suc p)) ts)) (omega arith)

-- the same of places that may be none
pub place-append : (p : ℕ) (ts us : List Bool) → place_in (first_from (suc p) (ts ++ us)) ≡ option_or (place_in (first_from (suc p) ts)) (place_in (first_from (suc p + length ts) us))
place-append p ts us = ap place_in (first-append p ts us) ∙ go (first_from (suc p) ts) (first_from (suc p + length ts) us) (eqb (first_from (suc p) ts) 0) refl
  where
    go : (n u : ℕ) (c : Bool) → eqb n 0 ≡ c → place_in (when c u n) ≡ option_or (when c None (Some n)) (place_in u)
    go n u true e = refl
    go n u false e = simp e
