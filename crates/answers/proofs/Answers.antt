-- The numbers of an answer lose nothing: `refusal_of` and `answer_of` give it back. So two answers with the same numbers are equal.
-- A refusal's numbers do not start with 0, and there are five at most.
-- Assumes nothing.
use mathlib.Core.Path.{◌≡◌, refl, sym, ap, ◌∙◌}
use mathlib.Core.List.{List}
use mathlib.Core.Bool.{true, false}
use Prim.Native.Nat.{ℕ, ◌≤◌}
use native.Mathlib.Omega.{arith}
use lib.ListN.{length, take, get_or, length-take}
use lib.Dec.{eqb}
use borrow.Author.Tests.{eq-eqb}
use Rattle.wire.specs.Flags.{when}
use Rattle.answers.specs.Answer.{numbers, told, number_of, told_now}
use Rattle.answers.specs.declared.answer.Refusal.{Refusal}
use Rattle.answers.specs.declared.answer.Refusal.TheVariants as R
use Rattle.std.specs.Prelude.{Ok, Err, Result}

pub refusal_of : List ℕ → Refusal
refusal_of l = go (get_or l 0 0) (get_or l 1 0) (get_or l 2 0) (get_or l 3 0) (get_or l 4 0)
  where
    go : ℕ → ℕ → ℕ → ℕ → ℕ → Refusal
    go n x y z v =
        when (eqb n 1) (R.Short x y z v)
        (when (eqb n 2) (R.Long x)
        (when (eqb n 3) (R.Inconsistent x)
        (when (eqb n 4) (R.Field x)
        (when (eqb n 5) (R.Room x y)
        (when (eqb n 6) R.Slot
        (when (eqb n 7) (R.NoFit x) (R.SlotForm x)))))))

pub refusal-back : (why : Refusal) → refusal_of (numbers why) ≡ why
unfolding refusal_of
refusal-back (R.Short place need have least) = refl
refusal-back (R.Long n) = refl
refusal-back (R.Inconsistent place) = refl
refusal-back (R.Field place) = refl
refusal-back (R.Room need have) = refl
refusal-back R.Slot = refl
refusal-back (R.NoFit size) = refl
refusal-back (R.SlotForm offset) = refl

pub refused-number : (why : Refusal) → eqb (number_of (numbers why)) 0 ≡ false
refused-number (R.Short place need have least) = refl
refused-number (R.Long n) = refl
refused-number (R.Inconsistent place) = refl
refused-number (R.Field place) = refl
refused-number (R.Room need have) = refl
refused-number R.Slot = refl
refused-number (R.NoFit size) = refl
refused-number (R.SlotForm offset) = refl

pub refused : (why : Refusal) → number_of (numbers why) ≡ 0 → ⊥
refused why e = let z : false ≡ true = sym (refused-number why) ∙ eq-eqb _ 0 e in let k : ◌≡◌ {A = ℕ} 0 1 = cc in omega arith

answer_of : List ℕ → Result ℕ Refusal
answer_of l = when (eqb (number_of l) 0) (Ok (get_or l 1 0)) (Err (refusal_of l))

answer_back : (a : Result ℕ Refusal) → answer_of (told a) ≡ a
unfolding answer_of
answer_back (Ok n) = refl
answer_back (Err why) = rw (refused-number why, refusal-back why)

-- Two answers with the same numbers are equal.
pub same-told : (a b : Result ℕ Refusal) → told a ≡ told b → a ≡ b
same-told a b e = sym (answer_back a) ∙ ap answer_of e ∙ answer_back b

-- A refusal tells five numbers at most, so that an array of five has them all.
pub all_told : (why : Refusal) → take (length (numbers why)) (told_now (numbers why)).numbers ≡ numbers why
all_told (R.Short place need have least) = refl
all_told (R.Long n) = refl
all_told (R.Inconsistent place) = refl
all_told (R.Field place) = refl
all_told (R.Room need have) = refl
all_told R.Slot = refl
all_told (R.NoFit size) = refl
all_told (R.SlotForm offset) = refl

pub few-told : (why : Refusal) → length (numbers why) ≤ 5
few-told why = omega (arith, ap length (all_told why), length-take (length (numbers why)) (told_now (numbers why)).numbers)
