-- What the form of a slot is, by its bytes: wherever descriptors lead (`Upto`), the answer is that of the rest of the walk, and a `Cause` there is told.
-- Assumes nothing.
use mathlib.Core.Path.{◌≡◌, sym, ap, ◌∙◌}
use mathlib.Core.List.{List}
use mathlib.Core.Option.{Option, none, some}
use mathlib.Core.Bool.{Bool, true, false, or-false}
use Prim.Native.Nat.{ℕ, ◌+◌, ◌≤◌, ◌<◌}
use native.Mathlib.Omega.{arith}
use borrow.Author.Tests.{eq-eqb, ne_eqb}
use lib.ListN.{length}
use Rattle.form.specs.Envelope.{tag, extension, stuffing_tag}
use Rattle.form.specs.Walk.{descriptors}
use Rattle.form.specs.Form.{byte_at, breaking, first_ours, ours, breaks_from, breaks, judged}
use Rattle.form.specs.Bytewise.{behind, Upto, Cause}
use Rattle.form.specs.Bytewise as U
use Rattle.form.specs.declared.good.Form.{Form}
use Rattle.form.specs.declared.good.Form.TheVariants as F
use Rattle.form.proofs.Walking.{descriptor_at, walk_at, walk_start, at-end, at_stops, at-whole}
use Rattle.form.proofs.Fitting.{here-ours, here-not, fits-stuffing, fits-ours, breaks-other, breaks-second}

-- the place of ours in hand, and the rest of the walk before it
abbrev pub met : Option ℕ → Bool
met none = false
met (some a) = true

abbrev pub or : Option ℕ → Option ℕ → Option ℕ
or none x = x
or (some a) x = some a

unfoldable pub Rest : List ℕ → ℕ → Option ℕ → Form
Rest s at m = judged (breaks_from (met m) (length s) (walk_at s at)) (or m (first_ours (descriptors (walk_at s at))))

module _ (s : List ℕ) (at : ℕ) where
  rest-stuffing : (m : Option ℕ) → byte_at s at ≡ stuffing_tag → behind s at ≤ length s → Rest s at m ≡ Rest s (behind s at) m
  unfolding Rest breaks_from first_ours descriptors
  rest-stuffing m t h = rw (at-whole s at h, fits-stuffing s at h (met m) t, here-not s at h (λ f. omega arith), or-false)

  rest-ours : byte_at s at ≡ tag → 1 ≤ byte_at s (at + 1) → byte_at s (at + 2) ≡ extension → behind s at ≤ length s → Rest s at none ≡ Rest s (behind s at) (some at)
  unfolding Rest breaks_from first_ours descriptors
  rest-ours t l x h = rw (at-whole s at h, fits-ours s at h t l x, here-ours s at h t l x)

  pub rest_end : (m : Option ℕ) → at ≡ length s → Rest s at m ≡ judged none (or m none)
  unfolding Rest breaks_from first_ours descriptors
  rest_end m e = rw (at-end s at (omega arith), eq-eqb at (length s) e)

  rest-stop : (m : Option ℕ) → at < length s → length s < behind s at → Rest s at m ≡ F.Broken at
  unfolding Rest breaks_from
  rest-stop m l h = let z : at ≡ length s → ⊥ = omega arith in rw (at_stops s at h, ne_eqb at (length s) z)

  rest-bad : (m : Option ℕ) → behind s at ≤ length s → breaking (met m) (descriptor_at s at) ≡ true → Rest s at m ≡ F.Broken at
  unfolding Rest breaks_from
  rest-bad m h e = rw (at-whole s at h, e)

  -- a cause at the place is what is told
  pub rest-cause : (m : Option ℕ) → Cause s at m → Rest s at m ≡ F.Broken at
  rest-cause m (U.one-left e) = rest-stop m (omega arith) (omega arith)
  rest-cause m (U.runs-past l h) = rest-stop m (omega arith) h
  rest-cause m (U.foreign h a b) = rest-bad m h (breaks-other s at h (met m) a (here-not s at h (λ f. b f.0)))
  rest-cause m (U.other-third h t l x) = rest-bad m h (breaks-other s at h (met m) (λ z. omega arith) (here-not s at h (λ f. x f.1.1)))
  rest-cause m (U.length-zero h t z) = rest-bad m h (breaks-other s at h (met m) (λ y. omega arith) (here-not s at h (λ f. omega arith)))
  rest-cause m (U.second {a = a} h t) = rest-bad (some a) h (breaks-second s at h t)

-- the whole answer is that of the rest, wherever descriptors lead
pub along : (s : List ℕ) (at : ℕ) (m : Option ℕ) → Upto s at m → judged (breaks s) (ours s) ≡ Rest s at m
unfolding Rest breaks ours
along s at m U.start = rw (walk_start s)
along s at m (U.stuffing {at = a} {m = k} u t e l) = along s a k u ∙ rest-stuffing s a k t (omega arith) ∙ ap (λ (x : ℕ). Rest s x k) (sym e)
along s at m (U.ours {at = a} u t l x e h) = along s a none u ∙ rest-ours s a t l x (omega arith) ∙ ap (λ (y : ℕ). Rest s y (some a)) (sym e)
