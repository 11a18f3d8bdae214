-- The core of a body and the parts behind it fill both arrays, so that what was there before does not matter, and what is there then is the record's: where it
-- ends (`whole-end`), its numbers (`whole_numbers`) and its bytes (`whole-bytes`), of what each call stored.
-- Assumes nothing.
use Rattle.std.specs.Prelude.{◌≡◌, ℕ, ◌/◌, ◌%◌, Bool, true, false, List, length, get_or, Option}
use mathlib.Core.Path.{refl, ap, subst, ◌∙◌}
use native.Mathlib.Nat.{div-one}
use Rattle.wire.specs.Flags.{bit, is_one, when, and}
use Rattle.wire.proofs.Flags.{is-bit}
use Rattle.s2xv2.specs.Read.{Present, present_in, superframe_end, body_size, record_at, record_in}
use Rattle.s2xv2.proofs.Modes.{code-mode}
use Rattle.s2xv2_plain.proofs.Back.{is-there}
use Rattle.s2xv2_plain.specs.Output.{numbers_of, bytes_of}
use Rattle.s2xv2_reader.specs.Stored.{reach, core_numbers, field_bytes, asked_bytes, named, rest_numbers, rest_bytes}
use Rattle.s2xv2_reader.proofs.Spread.{spread}
use Rattle.s2xv2_reader.proofs.Block.{bit-mod}
use Rattle.answers.proofs.Options.{is-selected}

-- a bit that stands only where a flag is set, as a flag and as a bit
flag-when : (h : Bool) (x : ℕ) → is_one (when h x 0) ≡ and h (is_one x)
flag-when true x = refl
flag-when false x = refl

bit-when : (h : Bool) (x : ℕ) → bit (and h (is_one (x % 2))) ≡ when h (x % 2) 0
bit-when true x = bit-mod x
bit-when false x = refl

-- the bytes that the core of a body stores
abbrev core_bytes : List ℕ → List ℕ → List ℕ
core_bytes bs s = asked_bytes (field_bytes bs (get_or s 4 0) (get_or s 5 0) (get_or s 6 0)) (get_or s 4 0 / 16 % 16) (get_or s 4 0) (get_or s 6 0)

-- they say which parts are there
named-core : (bs s : List ℕ) → length bs ≡ 36 → named (core_bytes bs s) ≡ present_in s
unfolding present_in
named-core bs s e = subst (λ (l : List ℕ). named (core_bytes l s) ≡ present_in s) (spread 36 bs e) (simp (is-bit, flag-when))

all-numbers : (ws s : List ℕ) → length ws ≡ 10 → rest_numbers (core_numbers ws s) s (present_in s) ≡ numbers_of (record_in s)
unfolding record_at
all-numbers ws s e = subst (λ (l : List ℕ). rest_numbers (core_numbers l s) s (present_in s) ≡ numbers_of (record_in s)) (spread 10 ws e) refl

all-bytes : (bs s : List ℕ) → length bs ≡ 36 → rest_bytes (core_bytes bs s) s (present_in s) ≡ bytes_of (record_in s)
unfolding record_at present_in
all-bytes bs s e =
    subst (λ (l : List ℕ). rest_bytes (core_bytes l s) s (present_in s) ≡ bytes_of (record_in s)) (spread 36 bs e)
    (simp (div-one, code-mode, is-there, is-selected, bit-mod, bit-when))

-- the bytes before the core is stored, with its fields, and with what is asked for
module _ (s b0 b1 b2 : List ℕ) (h : length b0 ≡ 36)
    (d1 : b1 ≡ field_bytes b0 (get_or s 4 0) (get_or s 5 0) (get_or s 6 0))
    (d2 : b2 ≡ asked_bytes b1 (get_or s 4 0 / 16 % 16) (get_or s 4 0) (get_or s 6 0)) where
  core_is : b2 ≡ core_bytes b0 s
  core_is = d2 ∙ ap (λ (l : List ℕ). asked_bytes l (get_or s 4 0 / 16 % 16) (get_or s 4 0) (get_or s 6 0)) d1

  named-is : named b2 ≡ present_in s
  named-is = ap named core_is ∙ named-core b0 s h

  pub whole-end : (q : Option ℕ) → q ≡ reach (length s) (superframe_end s (named b2)) → q ≡ reach (length s) (body_size s)
  unfolding body_size
  whole-end q d = d ∙ ap (λ (k : Present). reach (length s) (superframe_end s k)) named-is

  pub whole_numbers : (w0 w1 w2 : List ℕ) → length w0 ≡ 10 → w1 ≡ core_numbers w0 s → w2 ≡ rest_numbers w1 s (named b2) → w2 ≡ numbers_of (record_in s)
  whole_numbers w0 w1 w2 g c r =
      r ∙ ap (λ (k : Present). rest_numbers w1 s k) named-is ∙ ap (λ (l : List ℕ). rest_numbers l s (present_in s)) c ∙ all-numbers w0 s g

  pub whole-bytes : (b3 : List ℕ) → b3 ≡ rest_bytes b2 s (named b2) → b3 ≡ bytes_of (record_in s)
  whole-bytes b3 r =
      r ∙ ap (λ (k : Present). rest_bytes b2 s k) named-is ∙ ap (λ (l : List ℕ). rest_bytes l s (present_in s)) core_is ∙ all-bytes b0 s h
