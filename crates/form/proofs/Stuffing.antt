-- A stuffing descriptor: its length, and the byte at each place. Its two first bytes stand there as written, and the rest is one byte repeated.
-- Assumes nothing.
use mathlib.Core.Path.{◌≡◌, refl, ap}
use Prim.Native.Nat.{ℕ, zero, suc, ◌-◌, ◌<◌}
use native.Mathlib.Nat.{not-suc-le-zero, le_of_suc-le-suc}
use native.Mathlib.Omega.{arith}
use lib.ListN.{length, get_or, length-replicate, get_or-replicate}
use Rattle.form.specs.Envelope.{stuffing_tag, filler, stuffing}

pub stuffing-length : (m : ℕ) → length (stuffing m) ≡ m
unfolding stuffing
stuffing-length zero = refl
stuffing-length (suc zero) = refl
stuffing-length (suc (suc m)) = ap (λ (k : ℕ). suc (suc k)) (length-replicate m filler)

tag_at : (m : ℕ) → 0 < m → get_or (stuffing m) 0 0 ≡ stuffing_tag
unfolding stuffing
tag_at zero h = absurd (not-suc-le-zero h)
tag_at (suc zero) h = refl
tag_at (suc (suc m)) h = refl

size-at : (m : ℕ) → 1 < m → get_or (stuffing m) 1 0 ≡ m - 2
unfolding stuffing
size-at zero h = absurd (not-suc-le-zero h)
size-at (suc zero) h = absurd (not-suc-le-zero (le_of_suc-le-suc h))
size-at (suc (suc m)) h = omega arith

-- the first byte, the second, and those behind
pub stuffing-tag : (m i : ℕ) → i ≡ 0 → 0 < m → get_or (stuffing m) i 0 ≡ stuffing_tag
stuffing-tag m i e h = rw e (tag_at m h)

pub stuffing-size : (m i : ℕ) → i ≡ 1 → 1 < m → get_or (stuffing m) i 0 ≡ m - 2
stuffing-size m i e h = rw e (size-at m h)

pub stuffing-fill : (m i : ℕ) → 1 < i → i < m → get_or (stuffing m) i 0 ≡ filler
unfolding stuffing
stuffing-fill m zero l h = absurd (not-suc-le-zero l)
stuffing-fill m (suc zero) l h = absurd (not-suc-le-zero (le_of_suc-le-suc l))
stuffing-fill zero (suc (suc i)) l h = absurd (not-suc-le-zero h)
stuffing-fill (suc zero) (suc (suc i)) l h = absurd (not-suc-le-zero (le_of_suc-le-suc h))
stuffing-fill (suc (suc m)) (suc (suc i)) l h = get_or-replicate m i filler 0 (le_of_suc-le-suc (le_of_suc-le-suc h))
