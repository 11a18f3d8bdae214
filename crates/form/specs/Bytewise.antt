-- Good form, and what breaks it, over the bytes of a slot alone: nothing here knows the walk. Assumes nothing.
-- `behind`      the place behind the descriptor at a place
-- `ours_tests`  the tests of a descriptor at a place that is one of ours
-- `ours_at`     it is one of ours
-- `Upto`        descriptors lead from the first byte to a place
-- `Cause`       the descriptor at a place breaks the form
use Rattle.std.specs.Prelude.{ℕ, ◌+◌, ◌≤◌, ◌<◌, ◌≡◌, Bool, List, [], ◌∷◌, length, leb, eqb}
use Rattle.std.proofs.Math.Option.{Option, none, some}
use Rattle.form.specs.Envelope.{tag, extension, stuffing_tag}
use Rattle.form.specs.Form.{byte_at, all}

abbrev pub behind : List ℕ → ℕ → ℕ
behind s at = at + 2 + byte_at s (at + 1)

abbrev pub ours_tests : List ℕ → ℕ → List Bool
ours_tests s at = eqb (byte_at s at) tag ∷ leb 1 (byte_at s (at + 1)) ∷ eqb (byte_at s (at + 2)) extension ∷ []

unfoldable pub ours_at : List ℕ → ℕ → Bool
ours_at s at = all (ours_tests s at)

-- from byte 0 to the place e there are whole descriptors, one behind the other, each stuffing or ours, with at most one of ours: it starts at m,
-- and is none if m is none
pub data Upto (s : List ℕ) : ℕ → Option ℕ → Type 0 where
  start : Upto s 0 none
  stuffing : {at e : ℕ} {m : Option ℕ} → Upto s at m → byte_at s at ≡ stuffing_tag → e ≡ behind s at → e ≤ length s → Upto s e m
  ours : {at e : ℕ} → Upto s at none → byte_at s at ≡ tag → 1 ≤ byte_at s (at + 1) → byte_at s (at + 2) ≡ extension
      → e ≡ behind s at → e ≤ length s → Upto s e (some at)

-- the descriptor at a place breaks the form, where the one of ours in front of it starts at m: it has one byte left; runs past the end; has a
-- foreign tag; is a 0x7F with another third byte, or of length 0, or the second one
pub data Cause (s : List ℕ) (at : ℕ) : Option ℕ → Type 0 where
  one-left : {m : Option ℕ} → at + 1 ≡ length s → Cause s at m
  runs-past : {m : Option ℕ} → at + 2 ≤ length s → length s < behind s at → Cause s at m
  foreign : {m : Option ℕ} → behind s at ≤ length s → (byte_at s at ≡ stuffing_tag → ⊥) → (byte_at s at ≡ tag → ⊥) → Cause s at m
  other-third : {m : Option ℕ} → behind s at ≤ length s → byte_at s at ≡ tag → 1 ≤ byte_at s (at + 1) → (byte_at s (at + 2) ≡ extension → ⊥) → Cause s at m
  length-zero : {m : Option ℕ} → behind s at ≤ length s → byte_at s at ≡ tag → byte_at s (at + 1) ≡ 0 → Cause s at m
  second : {a : ℕ} → behind s at ≤ length s → byte_at s at ≡ tag → Cause s at (some a)
