-- The form of a slot by its size and its bytes, both ways: what descriptors lead to (`Upto`) and what breaks there (`Cause`) is what `form_of` tells, and
-- good form is a good size with nothing that breaks.
-- Assumes nothing.
use mathlib.Core.Path.{◌≡◌, refl, sym, ap, ◌∙◌}
use mathlib.Core.List.{List, [], ◌∷◌, map}
use mathlib.Core.Option.{Option, none, some}
use mathlib.Core.Bool.{Bool, true, false, not, cond, ◌&&◌, ◌||◌, and-false, false≢true}
use Prim.Native.Nat.{ℕ, suc, ◌≤◌}
use native.Mathlib.Decide.{dec_le}
use native.Mathlib.Omega.{arith}
use borrow.Author.Tests.{eqb-true, lt-leb}
use lib.ListN.{length}
use lib.Dec.{leb, eqb}
use Rattle.form.specs.Envelope.{stuffing_tag}
use Rattle.form.specs.Walk.{Descriptor, Walk, whole, stops, walk, descriptors, stop}
use Rattle.form.specs.Form.{all, count, good_size, is_stuffing, is_ours, good_form, ours, breaks_from, breaks, judged, form_of}
use Rattle.form.specs.Bytewise.{Upto, Cause}
use Rattle.form.specs.declared.good.Form.{Form}
use Rattle.form.specs.declared.good.Form.TheVariants as F
use Rattle.form.proofs.Tests.{both}
use Rattle.form.proofs.GoodForm.{size-facts, facts-size, not-size}
use Rattle.form.proofs.Fitting.{ours-facts, breaking-is}
use Rattle.form.proofs.Places.{or, along, rest_end, rest-cause}
use Rattle.form.proofs.Outcomes.{Outcome, broken, covers, outcome}

-- ---- answers that differ
abbrev pub kind_of : Form → ℕ
kind_of F.Size = 0
kind_of (F.Broken at) = 1
kind_of F.Empty = 2
kind_of (F.Ours at) = 3

abbrev pub place_of : Form → ℕ
place_of F.Size = 0
place_of (F.Broken at) = at
place_of F.Empty = 0
place_of (F.Ours at) = at

or-none : (m : Option ℕ) → or m none ≡ m
or-none none = refl
or-none (some a) = refl

judged-good : (b o m : Option ℕ) → judged b o ≡ judged none m → (b ≡ none) × (o ≡ m)
judged-good none none none e = (refl, refl)
judged-good none (some a) (some c) e = (refl, ap (λ (x : Form). some (place_of x)) e)
judged-good none none (some c) e = let z : ◌≡◌ {A = ℕ} 2 3 = ap kind_of e in absurd (omega arith)
judged-good none (some a) none e = let z : ◌≡◌ {A = ℕ} 3 2 = ap kind_of e in absurd (omega arith)
judged-good (some x) o none e = let z : ◌≡◌ {A = ℕ} 1 2 = ap kind_of e in absurd (omega arith)
judged-good (some x) o (some c) e = let z : ◌≡◌ {A = ℕ} 1 3 = ap kind_of e in absurd (omega arith)

judged-broken : (b o : Option ℕ) (at : ℕ) → judged b o ≡ F.Broken at → b ≡ some at
judged-broken (some x) o at e = ap (λ (y : Form). some (place_of y)) e
judged-broken none none at e = let z : ◌≡◌ {A = ℕ} 2 1 = ap kind_of e in absurd (omega arith)
judged-broken none (some c) at e = let z : ◌≡◌ {A = ℕ} 3 1 = ap kind_of e in absurd (omega arith)

-- there is none
abbrev is_none : Option ℕ → Bool
is_none none = true
is_none (some x) = false

is-none : (x : Option ℕ) → is_none x ≡ true → x ≡ none
is-none none e = refl
is-none (some a) e = absurd (false≢true e)

pub none-some : (x : Option ℕ) (o : ℕ) → x ≡ none → x ≡ some o → ⊥
none-some x o e f = false≢true (ap is_none (sym f ∙ e))

pub some_same : (a b : ℕ) → some a ≡ some b → a ≡ b
some_same a b e = ap (λ (x : Option ℕ). place_of (judged x none)) e

-- ---- from the bytes to the answer, and back
module _ (s : List ℕ) where
  covered : (m : Option ℕ) → Upto s (length s) m → (breaks s ≡ none) × (ours s ≡ m)
  covered m u = judged-good (breaks s) (ours s) m (along s (length s) m u ∙ rest_end s (length s) m refl ∙ ap (judged none) (or-none m))

  breaks-there : (o : ℕ) (m : Option ℕ) → Upto s o m → Cause s o m → breaks s ≡ some o
  breaks-there o m u c = judged-broken (breaks s) (ours s) o (along s o m u ∙ rest-cause s o m c)

  covers-it : breaks s ≡ none → Upto s (length s) (ours s)
  covers-it e = by (outcome s)
    where
      by : Outcome s → Upto s (length s) (ours s)
      by (covers m u) = rw (covered m u).1 u
      by (broken x m u c) = absurd (none-some (breaks s) x e (breaks-there x m u c))

-- ---- good form: a good size, and nothing breaks
abbrev plus : Bool → ℕ → ℕ
plus met c = cond met (suc c) c

-- a descriptor, and what is so behind it whether or not one of ours was met: e, the walk stops at the end; a, each is good; c, how many are ours
by_turn : (stuffed o met : Bool) (rest : Bool → Option ℕ) (e a : Bool) (c at : ℕ) → (stuffed ≡ true → o ≡ true → ⊥)
    → ((m : Bool) → is_none (rest m) ≡ all (e ∷ a ∷ leb (plus m c) 1 ∷ []))
    → is_none (cond (not (stuffed || (o && not met))) (some at) (rest (met || o))) ≡ all (e ∷ ((stuffed || o) && a) ∷ leb (plus met (plus o c)) 1 ∷ [])
by_turn true true met rest e a c at n h = absurd (n refl refl)
by_turn true false true rest e a c at n h = h true
by_turn true false false rest e a c at n h = h false
by_turn false true false rest e a c at n h = h true
by_turn false true true rest e a c at n h = rw (lt-leb (suc (suc c)) 1 (omega arith)) (sym (ap (λ (x : Bool). e && x) (and-false a) ∙ and-false e))
by_turn false false met rest e a c at n h = sym (and-false e)

by_end : (b met : Bool) (at : ℕ) → is_none (cond (not b) (some at) none) ≡ all (b ∷ true ∷ leb (plus met 0) 1 ∷ [])
by_end true true at = refl
by_end true false at = refl
by_end false met at = refl

one-kind : (d : Descriptor) → is_stuffing d ≡ true → is_ours d ≡ true → ⊥
one-kind d t o = let a = eqb-true d.tag stuffing_tag t in let b = (ours-facts d o).0 in omega arith

good-from : (met : Bool) (n : ℕ) (w : Walk) → is_none (breaks_from met n w)
    ≡ all (eqb (stop w) n ∷ all (map (λ d. is_stuffing d || is_ours d) (descriptors w)) ∷ leb (plus met (count (map is_ours (descriptors w)))) 1 ∷ [])
unfolding breaks_from descriptors stop
good-from met n (whole d w) =
    ap (λ (b : Bool). is_none (cond b (some d.offset) (breaks_from (met || is_ours d) n w))) (breaking-is met d)
    ∙ by_turn (is_stuffing d) (is_ours d) met (λ m. breaks_from m n w) (eqb (stop w) n) (all (map (λ x. is_stuffing x || is_ours x) (descriptors w)))
    (count (map is_ours (descriptors w))) d.offset (one-kind d) (λ m. good-from m n w)
good-from met n (stops at) = by_end (eqb at n) met at

good-is : (s : List ℕ) → good_form s ≡ good_size (length s) && is_none (breaks s)
unfolding good_form breaks
good-is s = ap (λ (b : Bool). good_size (length s) && b) (sym (good-from false (length s) (walk s)))

-- a slot of a good size that descriptors cover, each stuffing or ours, with the one of ours at m
pub record Good (s : List ℕ) (m : Option ℕ) : Type 0 where
  pub least : 21 ≤ length s
  pub most : length s ≤ 257
  pub upto : Upto s (length s) m

pub good-form : {s : List ℕ} {m : Option ℕ} → Good s m → (good_form s ≡ true) × (ours s ≡ m)
good-form {s} {m} g =
    let c = covered s m g.upto in
    let e : good_size (length s) && is_none (breaks s) ≡ true = rw (facts-size (length s) (g.least, g.most), c.0) in
    (good-is s ∙ e, c.1)

pub form-good : (s : List ℕ) → good_form s ≡ true → Good s (ours s)
form-good s e =
    let f = both (good_size (length s)) (is_none (breaks s)) (sym (good-is s) ∙ e) in
    let n = size-facts (length s) f.0 in
    record { least = n.0; most = n.1; upto = covers-it s (is-none (breaks s) f.1) }

-- ---- the answers
module _ (s : List ℕ) where
  pub tells-size : ((21 ≤ length s) × (length s ≤ 257) → ⊥) → F.Size ≡ form_of s
  unfolding form_of
  tells-size h = rw (← not-size (length s) h)

  sized : 21 ≤ length s → length s ≤ 257 → form_of s ≡ judged (breaks s) (ours s)
  unfolding form_of
  sized l h = rw (facts-size (length s) (l, h))

  pub tells-broken : 21 ≤ length s → length s ≤ 257 → (o : ℕ) (m : Option ℕ) → Upto s o m → Cause s o m → F.Broken o ≡ form_of s
  tells-broken l h o m u c = sym (sized l h ∙ ap (λ (x : Option ℕ). judged x (ours s)) (breaks-there s o m u c))

  pub tells-good : (m : Option ℕ) → Good s m → form_of s ≡ judged none m
  tells-good m g = let c = covered s m g.upto in sized g.least g.most ∙ rw (c.0, c.1)

  -- a slot that is told to be in good form is
  pub told-good : (m : Option ℕ) → form_of s ≡ judged none m → Good s m
  told-good m e = by (dec_le 21 (length s)) (dec_le (length s) 257)
    where
      other : (k : Option ℕ) → F.Size ≡ judged none k → ⊥
      other none q = let z : ◌≡◌ {A = ℕ} 0 2 = ap kind_of q in omega arith
      other (some a) q = let z : ◌≡◌ {A = ℕ} 0 3 = ap kind_of q in omega arith

      by : Dec (21 ≤ length s) → Dec (length s ≤ 257) → Good s m
      by (yes l) (yes h) =
          let c = judged-good (breaks s) (ours s) m (sym (sized l h) ∙ e) in
          record { least = l; most = h; upto = rw (← c.1) (covers-it s c.0) }
      by (no l) h = absurd (other m (tells-size (λ f. l f.0) ∙ e))
      by (yes l) (no h) = absurd (other m (tells-size (λ f. h f.1) ∙ e))

-- which answers say that a slot is in good form
abbrev pub is_good : Form → Bool
is_good F.Size = false
is_good (F.Broken at) = false
is_good F.Empty = true
is_good (F.Ours at) = true

pub good-told : (s : List ℕ) (f : Form) → f ≡ form_of s → is_good f ≡ good_form s
unfolding form_of
good-told s f e = ap is_good e ∙ sym (good-is s ∙ by (good_size (length s)) (breaks s) (ours s))
  where
    by : (g : Bool) (b o : Option ℕ) → g && is_none b ≡ is_good (cond g (judged b o) F.Size)
    by true none none = refl
    by true none (some a) = refl
    by true (some a) o = refl
    by false b o = refl
