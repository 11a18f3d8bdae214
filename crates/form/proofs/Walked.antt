-- What the walk meets. In good form a descriptor with our tag is the one of ours (`the_one`), since it is not stuffing, and of two the count would be 2;
-- where there is none, there is none of ours (`none-met`). Each descriptor is what stands at its offset (`met-there`), and so has its body
-- (`met-body`); what is handed on from place to place is so there (`met-where`).
-- Assumes nothing.
use mathlib.Core.Path.{◌≡◌, refl, sym, ap, subst, ◌∙◌}
use mathlib.Core.List.Memᴰ
use mathlib.Core.List.{List, [], ◌∷◌, map, Memᴰ}
use mathlib.Core.Option.{none, some}
use mathlib.Core.Bool.{Bool, true, false, cond, ◌||◌}
use Prim.Native.Nat.{ℕ, zero, suc, ◌+◌, ◌-◌, ◌≤◌}
use native.Mathlib.Decide.{dec_le}
use native.Mathlib.Omega.{arith}
use borrow.Author.Tests.{ne_eqb}
use lib.ListN.{length, take, drop}
use lib.Seq.{take-nil, drop-drop}
use Rattle.form.specs.Envelope.{tag, stuffing_tag}
use Rattle.form.specs.Walk.{Descriptor, walk, descriptors}
use Rattle.form.specs.Form.{byte_at, all, count, is_stuffing, is_ours, form_tests, good_form, first_ours, ours, body_at}
use Rattle.form.specs.Bytewise.{behind}
use Rattle.form.proofs.Walking.{descriptor_at, walk_at, walk_start, at_stops, at-whole}
use Rattle.form.proofs.Fitting.{ours-facts}
use Rattle.form.proofs.Tests.{both, all-each, from-tests}

-- each descriptor is stuffing or ours
abbrev AllGood : List Descriptor → Type 0
AllGood ds = all (map (λ d. is_stuffing d || is_ours d) ds) ≡ true

split : (x : Descriptor) (ds : List Descriptor) → AllGood (x ∷ ds) → (is_stuffing x || is_ours x ≡ true) × AllGood ds
split x ds g = both (is_stuffing x || is_ours x) (all (map (λ d. is_stuffing d || is_ours d) ds)) g

-- one with our tag is ours
ours-is : (d : Descriptor) → is_stuffing d || is_ours d ≡ true → d.tag ≡ tag → is_ours d ≡ true
ours-is d e t = let z : d.tag ≡ stuffing_tag → ⊥ = omega arith in rw (ne_eqb d.tag stuffing_tag z) at e

-- ours are counted
counted : (ds : List Descriptor) (d : Descriptor) → Memᴰ d ds → is_ours d ≡ true → 1 ≤ count (map is_ours ds)
counted [] d m o = absurd (Memᴰ.not-nil m)
counted (x ∷ ds) d (Memᴰ.head e) o = rw (← e, o) (omega arith)
counted (x ∷ ds) d (Memᴰ.tail m) o = by (is_ours x) (counted ds d m o)
  where
    by : (b : Bool) → 1 ≤ count (map is_ours ds) → 1 ≤ count (b ∷ map is_ours ds)
    by true l = omega arith
    by false l = l

member-ours : (ds : List Descriptor) (d : Descriptor) → AllGood ds → Memᴰ d ds → d.tag ≡ tag → is_ours d ≡ true
member-ours [] d g m t = absurd (Memᴰ.not-nil m)
member-ours (x ∷ ds) d g (Memᴰ.head e) t = ours-is d (subst (λ (y : Descriptor). is_stuffing y || is_ours y ≡ true) (sym e) (split x ds g).0) t
member-ours (x ∷ ds) d g (Memᴰ.tail m) t = member-ours ds d (split x ds g).1 m t

among : (ds : List Descriptor) (d : Descriptor) → AllGood ds → count (map is_ours ds) ≤ 1 → Memᴰ d ds → d.tag ≡ tag → first_ours ds ≡ some d.offset
unfolding first_ours
among [] d g c m t = absurd (Memᴰ.not-nil m)
among (x ∷ ds) d g c (Memᴰ.head e) t =
    let o : is_ours x ≡ true = ours-is x (split x ds g).0 (sym (ap (λ (y : Descriptor). y.tag) e) ∙ t) in
    rw o (ap (λ (y : Descriptor). some y.offset) (sym e))
among (x ∷ ds) d g c (Memᴰ.tail m) t = by (is_ours x) (among ds d (split x ds g).1) c
  where
    by : (b : Bool) → (count (map is_ours ds) ≤ 1 → Memᴰ d ds → d.tag ≡ tag → first_ours ds ≡ some d.offset) → count (b ∷ map is_ours ds) ≤ 1
        → cond b (some x.offset) (first_ours ds) ≡ some d.offset
    by true more l = let k = counted ds d m (member-ours ds d (split x ds g).1 m t) in absurd (omega arith)
    by false more l = more l m t

-- AT MOST ONE OF OURS: each descriptor of the walk that has our tag is the one
pub the_one : (s : List ℕ) → good_form s ≡ true → (d : Descriptor) → Memᴰ d (descriptors (walk s)) → d.tag ≡ tag → ours s ≡ some d.offset
unfolding good_form ours
the_one s e d m t =
    let f = all-each (form_tests s) e in
    among (descriptors (walk s)) d f.1.1.0 (omega (arith, from-tests)) m t

none-among : (ds : List Descriptor) → ((d : Descriptor) → Memᴰ d ds → d.tag ≡ tag → ⊥) → first_ours ds ≡ none
unfolding first_ours
none-among [] h = refl
none-among (x ∷ ds) h = by (is_ours x) refl (none-among ds (λ d m. h d (Memᴰ.tail m)))
  where
    by : (b : Bool) → is_ours x ≡ b → first_ours ds ≡ none → cond b (some x.offset) (first_ours ds) ≡ none
    by true o e = absurd (h x (Memᴰ.head refl) (ours-facts x o).0)
    by false o e = e

-- .. and where none has it, there is none
pub none-met : (s : List ℕ) → ((d : Descriptor) → Memᴰ d (descriptors (walk s)) → d.tag ≡ tag → ⊥) → ours s ≡ none
unfolding ours
none-met s h = none-among (descriptors (walk s)) h

-- ---- each lies whole where its offset says
pub record There (s : List ℕ) (d : Descriptor) : Type 0 where
  pub lies : behind s d.offset ≤ length s
  pub it-is : d ≡ descriptor_at s d.offset

-- .. and what is so at the first byte, and behind a descriptor if it is so at it, is so there
module _ (s : List ℕ) (d : Descriptor) (Q : ℕ → Type 0) (step : (at : ℕ) → behind s at ≤ length s → Q at → Q (behind s at)) where
  by_turn : (at : ℕ) → Q at → (behind s at ≤ length s → Q (behind s at) → Memᴰ d (descriptors (walk_at s (behind s at))) → There s d × Q d.offset)
      → Dec (behind s at ≤ length s) → Memᴰ d (descriptors (walk_at s at)) → There s d × Q d.offset
  unfolding descriptors
  by_turn at q more (yes f) m = by (rw (at-whole s at f) at m)
    where
      by : Memᴰ d (descriptor_at s at ∷ descriptors (walk_at s (behind s at))) → There s d × Q d.offset
      by (Memᴰ.head e) = rw e (record { lies = f; it-is = refl }, q)
      by (Memᴰ.tail k) = more f (step at f q) k
  by_turn at q more (no f) m = let n : Memᴰ d [] = rw (at_stops s at (omega arith)) at m in absurd (Memᴰ.not-nil n)

  onward : (k at : ℕ) → length s ≤ at + k → Q at → Memᴰ d (descriptors (walk_at s at)) → There s d × Q d.offset
  onward zero at h q = by_turn at q (λ f p m. absurd (omega arith)) (dec_le (behind s at) (length s))
  onward (suc k) at h q = by_turn at q (λ f p. onward k (behind s at) (omega arith) p) (dec_le (behind s at) (length s))

  pub met-where : Q 0 → Memᴰ d (descriptors (walk s)) → There s d × Q d.offset
  met-where q m = onward (length s) 0 (omega arith) q (rw (walk_start s) at m)

pub met-there : (s : List ℕ) (d : Descriptor) → Memᴰ d (descriptors (walk s)) → There s d
met-there s d m = (met-where s d (λ at. Unit {0}) (λ at f q. tt) tt m).0

-- its body is what stands behind its third byte
behind-third : (k : ℕ) (u : List ℕ) → drop 1 (take k u) ≡ take (k - 1) (drop 1 u)
behind-third zero u = refl
behind-third (suc k) [] = sym (take-nil (suc k - 1))
behind-third (suc k) (x ∷ u) = let e : k ≡ suc k - 1 = omega arith in ap (λ (n : ℕ). take n u) e

pub met-body : (s : List ℕ) (d : Descriptor) → Memᴰ d (descriptors (walk s)) → body_at s d.offset ≡ drop 1 d.content
met-body s d m =
    let a = d.offset in
    let e : a + 2 + 1 ≡ a + 3 = omega arith in
    sym
    (ap (λ (x : Descriptor). drop 1 x.content) (met-there s d m).it-is
    ∙ behind-third (byte_at s (a + 1)) (drop (a + 2) s)
    ∙ ap (λ (u : List ℕ). take (byte_at s (a + 1) - 1) u) (drop-drop 1 (a + 2) s ∙ ap (λ (n : ℕ). drop n s) e))
