-- Laws of a text that is taken character by character.
-- `digits-count`  its digits are as many as the characters that are digits
-- `digits_parts`  those of two parts are as many as those of the whole
-- `digits_more`   what its rest holds from a place on, by the character there
-- `digits-end`    nothing is behind its end
-- `none-held`     a digit that waits for its second is no byte
-- Assumes nothing.
use Prim.Native.Nat.{ℕ, ◌+◌, ◌≤◌, ◌<◌}
use mathlib.Core.Path.{◌≡◌, refl}
use mathlib.Core.List.{List, [], ◌∷◌, ◌++◌}
use native.Mathlib.Numerals.{add-one}
use native.Mathlib.Omega.{arith}
use lib.ListN.{length, drop, get_or, drop_of_length-le, length-append}
use lib.Seq.{drop-cons}
use Rattle.std.specs.Prelude.{Option, Some, None, cond, count_by}
use Rattle.std.proofs.lemmas.List.Recursion.{is_count_by}
use Rattle.hexadecimal.specs.Glyph.{glyph_of, digit_in, is_digit}
use Rattle.hexadecimal.specs.Text.{digits_of, pairs_of}
use Rattle.hexadecimal.specs.Pen.{held_in}
use Rattle.hexadecimal.specs.declared.glyph.Glyph.{Glyph}
use Rattle.hexadecimal.specs.declared.glyph.Glyph.TheVariants as G

pub digits-count : (s : List ℕ) → length (digits_of s) ≡ count_by (λ c. is_digit (glyph_of c)) s
unfolding digits_of
digits-count s = is_count_by (λ (t : List ℕ). length (digits_of t)) (λ c. is_digit (glyph_of c)) refl (λ c cs. one (glyph_of c) (digits_of cs)) s
  where
    one : (g : Glyph) (ds : List ℕ) → length (digit_in g ++ ds) ≡ cond (is_digit g) (1 + length ds) (length ds)
    one (G.Digit d) ds = omega arith
    one G.Blank ds = refl
    one G.Other ds = refl

pub digits_parts : (r s t : List ℕ) → r ≡ s ++ t → length (digits_of r) ≡ length (digits_of s) + length (digits_of t)
unfolding digits_of
digits_parts r s t e = rw e (both s t)
  where
    both : (s t : List ℕ) → length (digits_of (s ++ t)) ≡ length (digits_of s) + length (digits_of t)
    both [] t = omega arith
    both (c ∷ cs) t = simp (length-append, both cs t) (omega arith)

pub digits_more : (s : List ℕ) (i : ℕ) → i < length s → digits_of (drop i s) ≡ digit_in (glyph_of (get_or s i 0)) ++ digits_of (drop (i + 1) s)
unfolding digits_of
digits_more s i h = rw (drop-cons s i 0, add-one i)

pub digits-end : (s : List ℕ) (i : ℕ) → length s ≤ i → digits_of (drop i s) ≡ []
unfolding digits_of
digits-end s i h = rw (drop_of_length-le s {i = i} h)

pub none-held : (high : Option ℕ) → pairs_of (held_in high ++ []) ≡ []
unfolding pairs_of
none-held (Some h) = refl
none-held None = refl
