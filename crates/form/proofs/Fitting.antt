-- One descriptor: whether it is one of ours, and whether it breaks the form, by the facts of it and by the bytes of the slot that it stands in. It
-- does not exactly if it is stuffing or the first of ours (`breaking-is`).
-- Assumes nothing.
use mathlib.Core.Path.{◌≡◌, refl, sym, ap, ◌∙◌}
use mathlib.Core.List.{List, [], ◌∷◌}
use mathlib.Core.Bool.{Bool, true, false, not, ◌&&◌, ◌||◌, and-false}
use Prim.Native.Nat.{ℕ, zero, suc, ◌+◌, ◌≤◌}
use native.Mathlib.Omega.{arith}
use borrow.Author.Tests.{eq-eqb, ne_eqb, eqb-true, le-leb}
use lib.ListN.{length, get_or, take, drop, length-drop}
use lib.Seq.{get_or-drop, length-take-le}
use lib.Dec.{leb, eqb}
use Rattle.form.specs.Envelope.{tag, extension, stuffing_tag}
use Rattle.form.specs.Walk.{Descriptor}
use Rattle.form.specs.Form.{byte_at, all, is_stuffing, is_ours, is_tagged, breaking}
use Rattle.form.specs.Bytewise.{behind, ours_tests, ours_at}
use Rattle.form.proofs.Tests.{all-each, each_all, fails, from-tests, to-tests}
use Rattle.form.proofs.Walking.{descriptor_at}

-- ---- by the facts of it
abbrev Ours : Descriptor → Type 0
Ours d = (d.tag ≡ tag) × ((1 ≤ length d.content) × (byte_at d.content 0 ≡ extension))

module _ (d : Descriptor) where
  abbrev tests : List Bool
  tests = eqb d.tag tag ∷ leb 1 (length d.content) ∷ eqb (byte_at d.content 0) extension ∷ []

  ours-is : Ours d → is_ours d ≡ true
  unfolding is_ours
  ours-is f = each_all tests (omega (arith, to-tests))

  pub ours-facts : is_ours d ≡ true → Ours d
  unfolding is_ours
  ours-facts e = let f = all-each tests e in omega (arith, from-tests)

  not_ours : (Ours d → ⊥) → is_ours d ≡ false
  not_ours h = sym (fails (is_ours d) (λ e. h (ours-facts e)))

-- ---- none of the causes: it is stuffing, or the first of ours
one-at-least : (n : ℕ) → leb 1 n ≡ not (eqb n 0)
one-at-least zero = refl
one-at-least (suc n) = rw (le-leb 1 (suc n) (omega arith), ne_eqb (suc n) 0 (λ e. omega arith))

by_tests : (stuffed tagged third hollow met : Bool) → (stuffed ≡ true → tagged ≡ true → ⊥)
    → (not (stuffed || tagged) || (tagged && not third)) || ((tagged && hollow) || (tagged && met)) ≡ not (stuffed || (all (tagged ∷ not hollow ∷ third ∷ []) && not met))
by_tests true true third hollow met h = absurd (h refl refl)
by_tests true false third hollow met h = refl
by_tests false false third hollow met h = refl
by_tests false true false true met h = refl
by_tests false true false false met h = refl
by_tests false true true true met h = refl
by_tests false true true false true h = refl
by_tests false true true false false h = refl

pub breaking-is : (met : Bool) (d : Descriptor) → breaking met d ≡ not (is_stuffing d || (is_ours d && not met))
unfolding is_ours
breaking-is met d =
    rw (one-at-least (length d.content))
    (by_tests (is_stuffing d) (is_tagged d) (eqb (byte_at d.content 0) extension) (eqb (length d.content) 0) met
    (λ a b. let x = eqb-true d.tag stuffing_tag a in let y = eqb-true d.tag tag b in omega arith))

-- ---- by the bytes at a place
abbrev OursThere : List ℕ → ℕ → Type 0
OursThere s at = (byte_at s at ≡ tag) × ((1 ≤ byte_at s (at + 1)) × (byte_at s (at + 2) ≡ extension))

module _ (s : List ℕ) (at : ℕ) where
  pub there-facts : ours_at s at ≡ true → OursThere s at
  unfolding ours_at
  there-facts e = let f = all-each (ours_tests s at) e in omega (arith, from-tests)

  pub is-there : OursThere s at → true ≡ ours_at s at
  unfolding ours_at
  is-there f = sym (each_all (ours_tests s at) (omega (arith, to-tests)))

-- .. where a descriptor lies whole
module _ (s : List ℕ) (at : ℕ) (whole : behind s at ≤ length s) where
  content-length : length (descriptor_at s at).content ≡ byte_at s (at + 1)
  content-length = length-take-le (byte_at s (at + 1)) (drop (at + 2) s) (rw length-drop (omega arith))

  content-first : 1 ≤ byte_at s (at + 1) → byte_at (descriptor_at s at).content 0 ≡ byte_at s (at + 2)
  content-first h = first_of (byte_at s (at + 1)) (drop (at + 2) s) h ∙ get_or-drop (at + 2) s 0 0 ∙ ap (λ (k : ℕ). byte_at s k) (omega arith)
    where
      first_of : (k : ℕ) (u : List ℕ) → 1 ≤ k → get_or (take k u) 0 0 ≡ get_or u 0 0
      first_of zero u h = absurd (omega arith)
      first_of (suc k) [] h = refl
      first_of (suc k) (x ∷ u) h = refl

  pub here-ours : byte_at s at ≡ tag → 1 ≤ byte_at s (at + 1) → byte_at s (at + 2) ≡ extension → is_ours (descriptor_at s at) ≡ true
  here-ours t l x = ours-is (descriptor_at s at) (t, (rw content-length l, content-first l ∙ x))

  pub here-not : (OursThere s at → ⊥) → is_ours (descriptor_at s at) ≡ false
  here-not h =
      not_ours (descriptor_at s at) (λ f.
      let l : 1 ≤ byte_at s (at + 1) = rw content-length at f.1.0 in
      h (f.0, (l, sym (content-first l) ∙ f.1.1)))

  -- stuffing does not break the form, nor does the first of ours; all else does
  pub fits-stuffing : (met : Bool) → byte_at s at ≡ stuffing_tag → breaking met (descriptor_at s at) ≡ false
  fits-stuffing met t = breaking-is met (descriptor_at s at) ∙ rw (eq-eqb _ _ t)

  pub fits-ours : byte_at s at ≡ tag → 1 ≤ byte_at s (at + 1) → byte_at s (at + 2) ≡ extension → breaking false (descriptor_at s at) ≡ false
  fits-ours t l x = let z : byte_at s at ≡ stuffing_tag → ⊥ = omega arith in breaking-is false (descriptor_at s at) ∙ rw (ne_eqb _ _ z, here-ours t l x)

  pub breaks-other : (met : Bool) → (byte_at s at ≡ stuffing_tag → ⊥) → is_ours (descriptor_at s at) ≡ false → breaking met (descriptor_at s at) ≡ true
  breaks-other met z h = breaking-is met (descriptor_at s at) ∙ rw (ne_eqb _ _ z, h)

  pub breaks-second : byte_at s at ≡ tag → breaking true (descriptor_at s at) ≡ true
  breaks-second t =
      let z : byte_at s at ≡ stuffing_tag → ⊥ = omega arith in
      breaking-is true (descriptor_at s at) ∙ rw (ne_eqb _ _ z) (ap not (and-false (is_ours (descriptor_at s at))))
