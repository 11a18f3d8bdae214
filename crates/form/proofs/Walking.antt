-- The walk at a place of a slot: it meets the descriptor that stands there, if that lies whole, and goes on behind it, or else it stops there.
-- Assumes nothing.
use mathlib.Core.Path.{◌≡◌, refl, ap, ◌∙◌}
use mathlib.Core.List.{List, [], ◌∷◌}
use Prim.Native.Nat.{ℕ, zero, suc, ◌+◌, ◌≤◌, ◌<◌}
use native.Mathlib.Decide.{dec_le}
use native.Mathlib.Omega.{arith}
use borrow.Author.Tests.{le-leb, lt-leb}
use lib.ListN.{length, take, drop, length-drop}
use lib.Seq.{drop-cons, drop-drop}
use Rattle.form.specs.Walk.{Descriptor, Walk, whole, stops, walk_from, walk}
use Rattle.form.specs.Form.{byte_at}
use Rattle.form.specs.Bytewise.{behind}

-- ---- at a list of bytes
skipped : (at k : ℕ) (s : List ℕ) → k ≤ length s → walk_from at k s ≡ walk_from (at + k) 0 (drop k s)
unfolding walk_from
skipped at zero s h = ap (λ (j : ℕ). walk_from j 0 s) (omega arith)
skipped at (suc k) [] h = absurd (omega arith)
skipped at (suc k) (x ∷ r) h = skipped (suc at) k r (omega arith) ∙ ap (λ (j : ℕ). walk_from j 0 (drop k r)) (omega arith)

stops-short : (at : ℕ) (u : List ℕ) → length u < 2 → walk_from at 0 u ≡ stops at
unfolding walk_from
stops-short at [] h = refl
stops-short at (x ∷ []) h = refl
stops-short at (x ∷ y ∷ r) h = absurd (omega arith)

module _ (at t l : ℕ) (r : List ℕ) where
  stops-past : length r < l → walk_from at 0 (t ∷ l ∷ r) ≡ stops at
  unfolding walk_from
  stops-past h = rw (lt-leb l (length r) h)

  turn : l ≤ length r → walk_from at 0 (t ∷ l ∷ r) ≡ whole (record { offset = at; tag = t; content = take l r }) (walk_from (at + 2 + l) 0 (drop l r))
  unfolding walk_from
  turn h =
      let e : suc (suc at) + l ≡ at + 2 + l = omega arith in
      rw (le-leb l (length r) h)
      (ap (whole (record { offset = at; tag = t; content = take l r })) (skipped (suc (suc at)) l r h ∙ ap (λ (j : ℕ). walk_from j 0 (drop l r)) e))

-- ---- at a place of a slot
abbrev pub descriptor_at : List ℕ → ℕ → Descriptor
descriptor_at s at = record { offset = at; tag = byte_at s at; content = take (byte_at s (at + 1)) (drop (at + 2) s) }

unfoldable pub walk_at : List ℕ → ℕ → Walk
walk_at s at = walk_from at 0 (drop at s)

pub walk_start : (s : List ℕ) → walk s ≡ walk_at s 0
unfolding walk_at
walk_start s = refl

module _ (s : List ℕ) (at : ℕ) where
  front : at + 2 ≤ length s → drop at s ≡ byte_at s at ∷ byte_at s (at + 1) ∷ drop (at + 2) s
  front h =
      let a : suc at ≡ at + 1 = omega arith in
      let b : suc (at + 1) ≡ at + 2 = omega arith in
      drop-cons s at 0 (omega arith)
      ∙ ap (λ (k : ℕ). byte_at s at ∷ drop k s) a
      ∙ ap (λ (x : List ℕ). byte_at s at ∷ x) (drop-cons s (at + 1) 0 (omega arith))
      ∙ ap (λ (k : ℕ). byte_at s at ∷ byte_at s (at + 1) ∷ drop k s) b

  pub at-end : length s < at + 2 → walk_at s at ≡ stops at
  unfolding walk_at
  at-end h = stops-short at (drop at s) (rw length-drop (omega arith))

  -- one test for both ways to stop: behind the end a byte is 0
  pub at_stops : length s < behind s at → walk_at s at ≡ stops at
  unfolding walk_at
  at_stops h = by (dec_le (at + 2) (length s))
    where
      by : Dec (at + 2 ≤ length s) → walk_from at 0 (drop at s) ≡ stops at
      by (yes l) = rw (front l) (stops-past at (byte_at s at) (byte_at s (at + 1)) (drop (at + 2) s) (rw length-drop (omega arith)))
      by (no l) = stops-short at (drop at s) (rw length-drop (omega arith))

  pub at-whole : behind s at ≤ length s → walk_at s at ≡ whole (descriptor_at s at) (walk_at s (behind s at))
  unfolding walk_at
  at-whole h =
      ap (walk_from at 0) (front (omega arith))
      ∙ turn at (byte_at s at) (byte_at s (at + 1)) (drop (at + 2) s) (rw length-drop (omega arith))
      ∙ ap (λ (u : List ℕ). whole (descriptor_at s at) (walk_from (behind s at) 0 u)) (drop-drop (byte_at s (at + 1)) (at + 2) s)
