-- What the empty call answers and leaves, by the slot's size: each definition picks by that one test.
-- Assumes nothing.
use mathlib.Core.Path.{◌≡◌, ap}
use mathlib.Core.Bool.{true, false}
use mathlib.Core.List.{List, [], ◌∷◌}
use Prim.Native.Nat.{ℕ, zero, suc, ◌-◌, ◌≤◌}
use native.Mathlib.Omega.{arith}
use lib.ListN.{length, set, replicate}
use Rattle.form.specs.Envelope.{stuffing_tag, filler, stuffing}
use Rattle.form.specs.Form.{good_size}
use Rattle.slot.specs.Empty.{empty_told, emptied}

pub told-empty : (n : ℕ) → good_size n ≡ true → 0 ∷ [] ≡ empty_told n
unfolding empty_told
told-empty n e = rw e

pub told-refused : (n : ℕ) → good_size n ≡ false → 6 ∷ [] ≡ empty_told n
unfolding empty_told
told-refused n e = rw e

pub left-empty : (s : List ℕ) → good_size (length s) ≡ true → stuffing (length s) ≡ emptied s
unfolding emptied
left-empty s e = rw e

pub left-refused : (s : List ℕ) → good_size (length s) ≡ false → s ≡ emptied s
unfolding emptied
left-refused s e = rw e

-- with its two first bytes it is the stuffing descriptor
pub filled-stuffing : (n : ℕ) → 2 ≤ n → set (set (replicate n filler) 0 stuffing_tag) 1 (n - 2) ≡ stuffing n
unfolding stuffing
filled-stuffing zero h = absurd (omega arith)
filled-stuffing (suc zero) h = absurd (omega arith)
filled-stuffing (suc (suc m)) h = ap (λ (k : ℕ). stuffing_tag ∷ k ∷ replicate m filler) (omega arith)
