-- A slot in the form of document 01 is in good form, with the one of ours at its start or none: its descriptor, and the one behind it, are the walk's.
-- Assumes nothing.
use mathlib.Core.Path.{◌≡◌, refl, sym}
use mathlib.Core.List.{List, [], ◌∷◌}
use mathlib.Core.Option.{Option, none, some}
use mathlib.Core.Bool.{Bool, true, false, cond, ◌||◌, false≢true}
use Prim.Native.Nat.{ℕ, ◌+◌, ◌≤◌}
use native.Mathlib.Omega.{arith}
use borrow.Author.Tests.{eqb-true}
use lib.ListN.{length}
use lib.Dec.{eqb}
use Rattle.form.specs.Envelope.{stuffing_tag}
use Rattle.form.specs.Form.{byte_at, all, good_size}
use Rattle.form.specs.Bytewise.{ours_at, Upto}
use Rattle.form.specs.Bytewise as U
use Rattle.form.specs.Document01.{good_first, stuffed_tests, good_rest, form01}
use Rattle.form.proofs.Tests.{all-each, from-tests}
use Rattle.form.proofs.GoodForm.{size-facts}
use Rattle.form.proofs.Fitting.{there-facts}
use Rattle.form.proofs.Answers.{Good}

or_right : (a b : Bool) → (a || b) ≡ true → a ≡ false → b ≡ true
or_right true b e f = absurd (false≢true (sym f))
or_right false b e f = e

-- where the one of ours starts, if there is one
abbrev pub first01 : List ℕ → Option ℕ
first01 s = cond (eqb (byte_at s 0) stuffing_tag) none (some 0)

module _ (s : List ℕ) where
  -- behind the first descriptor
  rest-within : (e : ℕ) → good_rest s e ≡ true → e ≤ length s
  unfolding good_rest
  rest-within e q = by (eqb e (length s)) refl
    where
      by : (b : Bool) → eqb e (length s) ≡ b → e ≤ length s
      by true h = let w : e ≡ length s = eqb-true e (length s) h in omega arith
      by false h = let f = all-each (stuffed_tests s e) (or_right (eqb e (length s)) (all (stuffed_tests s e)) q h) in omega (arith, from-tests)

  rest : (m : Option ℕ) (e : ℕ) → good_rest s e ≡ true → Upto s e m → Upto s (length s) m
  unfolding good_rest
  rest m e q u = by (eqb e (length s)) refl
    where
      by : (b : Bool) → eqb e (length s) ≡ b → Upto s (length s) m
      by true h = let w : e ≡ length s = eqb-true e (length s) h in rw (← w) u
      by false h =
          let f = all-each (stuffed_tests s e) (or_right (eqb e (length s)) (all (stuffed_tests s e)) q h) in
          U.stuffing {at = e} {e = length s} u (omega (arith, from-tests)) (omega (arith, from-tests)) (omega arith)

  -- the first descriptor
  first : good_first s ≡ true → byte_at s 1 + 2 ≤ length s → Upto s (byte_at s 1 + 2) (first01 s)
  unfolding good_first
  first q l = by (eqb (byte_at s 0) stuffing_tag) refl
    where
      by : (b : Bool) → eqb (byte_at s 0) stuffing_tag ≡ b → Upto s (byte_at s 1 + 2) (first01 s)
      by true h = rw h (U.stuffing {at = 0} {e = byte_at s 1 + 2} U.start (eqb-true _ _ h) (omega arith) l)
      by false h =
          let f = there-facts s 0 (or_right (eqb (byte_at s 0) stuffing_tag) (ours_at s 0) q h) in
          rw h (U.ours {at = 0} {e = byte_at s 1 + 2} U.start f.0 f.1.0 f.1.1 (omega arith) l)

  pub good01 : form01 s ≡ true → Good s (first01 s)
  unfolding form01
  good01 e =
      let f = all-each (good_size (length s) ∷ good_first s ∷ good_rest s (byte_at s 1 + 2) ∷ []) e in
      let n = size-facts (length s) f.0 in
      record { least = n.0; most = n.1; upto = rest (first01 s) (byte_at s 1 + 2) f.1.1.0 (first f.1.0 (rest-within (byte_at s 1 + 2) f.1.1.0)) }
