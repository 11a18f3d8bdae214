-- How long a text can get: `Most` says it of a text, and the laws give it for numbers, lines and what is joined. What a buffer holds that has
-- room for a text (`fits`).
-- Assumes nothing.
use Prim.Native.Nat.{ℕ, ◌+◌, ◌*◌, ◌/◌, ◌%◌, ◌≤◌, ◌<◌}
use mathlib.Core.Path.{◌≡◌, ◌∙◌}
use mathlib.Core.Bool.{Bool, true, false}
use mathlib.Core.List.{List, [], ◌∷◌, ◌++◌}
use native.Mathlib.Nat.{add-zero, zero-add, add-suc, suc-add}
use native.Mathlib.Numerals.{add-one}
use native.Mathlib.Omega.{arith}
use borrow.Author.Tests.{lt-ltb}
use lib.ListN.{length, drop, set, length-append, length-set}
use lib.Seq.{sets, sets-eq}
use lib.Dec.{leb}
use Rattle.wire.specs.Flags.{when}
use Rattle.lines.specs.Out.{Out, ◌from◌, put_one, write, Wrote, joined}
use Rattle.lines.specs.Number.{digit_of, three_of, decimal_of}
use Rattle.lines.specs.Line.{line_of, words, word_of, words_of}

pub record Most (text : List ℕ) (n : ℕ) : Type 0 where
  pub le : length text ≤ n

-- ---- what is joined

pub more : {n : ℕ} {a : List ℕ} (ts : List (List ℕ)) {m : ℕ} → Most a n → Most (joined ts) m → Most (joined (a ∷ ts)) (n + m)
unfolding joined
more {n} {a} ts {m} x y = record { le = omega (arith, length-append a (joined ts), x.le, y.le) }

pub none : Most (joined []) 0
unfolding joined
none = record { le = omega arith }

pub one : {a : List ℕ} {i : ℕ} → Most a i → Most (joined (a ∷ [])) (i + 0)
one x = more [] x none

pub two : {a b : List ℕ} {i j : ℕ} → Most a i → Most b j → Most (joined (a ∷ b ∷ [])) (i + (j + 0))
two {a} {b} x y = more (b ∷ []) x (one y)

pub three : {a b c : List ℕ} {i j k : ℕ} → Most a i → Most b j → Most c k → Most (joined (a ∷ b ∷ c ∷ [])) (i + (j + (k + 0)))
three {a} {b} {c} x y z = more (b ∷ c ∷ []) x (two y z)

pub four : {a b c d : List ℕ} {i j k l : ℕ} → Most a i → Most b j → Most c k → Most d l
    → Most (joined (a ∷ b ∷ c ∷ d ∷ [])) (i + (j + (k + (l + 0))))
four {a} {b} {c} {d} x y z w = more (b ∷ c ∷ d ∷ []) x (three y z w)

-- ---- numbers and lines

when-most : (b : Bool) (x : ℕ) → Most (when b (x ∷ []) []) 1
when-most true x = record { le = omega arith }
when-most false x = record { le = omega arith }

digit-most : (n power : ℕ) → Most (digit_of n power) 1
unfolding digit_of
digit-most n power = when-most (leb power n) (48 + n / power % 10)

three-most : (n a b c : ℕ) → Most (three_of n a b c) 3
unfolding three_of
three-most n a b c = three (digit-most n a) (digit-most n b) (digit-most n c)

pub one_byte : (x : ℕ) → Most (x ∷ []) 1
one_byte x = record { le = omega arith }

pub decimal-most : (n : ℕ) → Most (decimal_of n) 10
unfolding decimal_of
decimal-most n = four (three-most n _ _ _) (three-most n _ _ _) (three-most n _ _ _) (one_byte (48 + n % 10))

pub name-most : (name : List ℕ) → Most name (length name)
name-most name = record { le = omega arith }

pub line-most : (name : List ℕ) (v : ℕ) → Most (line_of name v) (length name + 12)
unfolding line_of
line-most name v = four (name-most name) (one_byte 32) (decimal-most v) (one_byte 10)

-- one text or another
pub either : (b : Bool) {n : ℕ} {a c : List ℕ} → Most a n → Most c n → Most (when b a c) n
either true x y = x
either false x y = y

pub upto : {a : List ℕ} {m : ℕ} (n : ℕ) → m ≤ n → Most a m → Most a n
upto {a} {m} n h x = record { le = omega (arith, x.le) }

pub empty : (n : ℕ) → Most [] n
empty n = record { le = omega arith }

pub words-most : (ns : List ℕ) → Most (words_of ns) (length ns * 11)
unfolding words_of word_of
words-most [] = none
words-most (n ∷ ns) = upto (length (n ∷ ns) * 11) (omega arith) (more (words ns) (two (one_byte 32) (decimal-most n)) (words-most ns))

-- ---- a text that fits

write-sets : (t l : List ℕ) (p : ℕ) → p + length t ≤ length l → write (l from p) t ≡ sets l p t from (p + length t)
unfolding write put_one
write-sets [] l p h = rw add-zero
write-sets (b ∷ bs) l p h =
    let i : p < length l = omega arith in
    rw (lt-ltb p (length l) i)
    (write-sets bs (set l p b) (p + 1) (omega (arith, length-set l p b)) ∙ rw (add-one p, add-suc p (length bs), suc-add p (length bs)))

-- a text that the buffer holds stands at its start, and what follows is as it was
pub fits : {l t : List ℕ} {o : Out} → length t ≤ length l → Wrote (l from 0) t o → o ≡ (t ++ drop (length t) l) from length t
fits {l} {t} {o} h w =
    let k : 0 + length t ≤ length l = omega arith in
    w.is ∙ write-sets t l 0 k ∙ rw (sets-eq t l 0 k, zero-add)
