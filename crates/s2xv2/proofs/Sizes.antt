-- A body is accepted exactly when it reaches the size that it dictates, and these sizes run from 18 to 41: no mode has both a scrambling
-- index and a superframe block.
-- Assumes nothing.
use mathlib.Core.Logic.{◌↔◌}
use mathlib.Core.Path.{◌≡◌, refl, ap}
use mathlib.Core.List.{List, [], ◌∷◌, ◌++◌}
use mathlib.Core.Bool.{Bool, true, false, ◌||◌}
use Prim.Native.Nat.{ℕ, ◌+◌, ◌≤◌, ◌<◌}
use native.Mathlib.Omega.{arith}
use lib.ListN.{length, get_or, replicate}
use lib.Dec.{eqb}
use borrow.Author.Tests.{ne_eqb}
use Rattle.wire.specs.Flags.{when, is_one, and, only}
use Rattle.wire.specs.Bits.{bits}
use Rattle.wire.specs.Widths.{cut}
use Rattle.s2xv2.specs.Table144b as T
use Rattle.s2xv2.specs.Table144c.{mode_of, has_selector, has_timeslice, has_superframe}
use Rattle.s2xv2.specs.Read.{present_in, bond_size, superframe_size, has_second, has_plan, timeslice_end, bond_end, body_size, read_told}
use Rattle.answers.specs.Answer.{number_of}
use Rattle.s2xv2.specs.declared.mode.S2Xv2Mode.{S2Xv2Mode}
use Rattle.s2xv2.specs.declared.mode.S2Xv2Mode.TheVariants as M
use Rattle.s2xv2.proofs.Modes.{by_code}
use Rattle.s2xv2.proofs.Reach.{told-accepted, accepted-reaches}

-- A body of at most 4,096 bytes is accepted exactly when its length reaches the size that its mode, flags and bond count dictate.
pub accepted-exactly : (s : List ℕ) → length s ≤ 4096 → (number_of (read_told s) ≡ 0) ↔ (body_size s ≤ length s)
accepted-exactly s h = (λ z. (accepted-reaches s z).0, λ e. ap number_of (told-accepted s e h))

-- No longer body is accepted.
pub accepted-within : (s : List ℕ) → number_of (read_told s) ≡ 0 → length s ≤ 4096
accepted-within s z = (accepted-reaches s z).1

-- ---- the size in plain numbers

-- the mode m is a or b
abbrev pub one_of : ℕ → ℕ → ℕ → Bool
one_of a b m = eqb m a || eqb m b

-- what is there in two modes by their names is there in these two by their codes
in-modes : (f : S2Xv2Mode → Bool) (a b : ℕ) → a < 6 → b < 6 → f M.Reserved0 ≡ one_of a b 0 → f M.S2X ≡ one_of a b 1 → f M.S2XTimeSlicing ≡ one_of a b 2
    → f M.Reserved3 ≡ one_of a b 3 → f M.S2XSuperframe ≡ one_of a b 4 → f M.S2XSuperframeTimeSlicing ≡ one_of a b 5 → ((v : ℕ) → f (M.Reserved v) ≡ false)
    → (n : ℕ) → f (mode_of n) ≡ one_of a b n
in-modes f a b ha hb e₀ e₁ e₂ e₃ e₄ e₅ e₆ =
    by_code (λ (n : ℕ) (m : S2Xv2Mode). f m ≡ one_of a b n) e₀ e₁ e₂ e₃ e₄ e₅ (λ v h. rw (ne_eqb v a (λ q. omega arith), ne_eqb v b (λ q. omega arith)) (e₆ v))

-- the mode, and where the bonds and the block stand if they are there
abbrev pub mode_bits : List ℕ → ℕ
mode_bits s = bits s 4 0 4

abbrev pub bond_place : List ℕ → ℕ
bond_place s = 18 + only (is_one (bits s 4 4 1)) 1 + only (and (one_of 1 2 (mode_bits s)) (is_one (bits s 6 0 1))) 3 + only (one_of 2 5 (mode_bits s)) 1

abbrev pub block_place : List ℕ → ℕ
block_place s = bond_place s + only (eqb (bits s 5 4 2) 1) (when (is_one (bits s (bond_place s) 7 1)) 9 5)

pub size-dictated : (s : List ℕ) → body_size s ≡ block_place s + only (one_of 4 5 (mode_bits s)) (when (is_one (bits s (block_place s + 1) 1 1)) 12 8)
unfolding body_size present_in
size-dictated s =
    rw (
      in-modes has_selector 1 2 (omega arith) (omega arith) refl refl refl refl refl refl (λ v. refl) (mode_bits s),
      in-modes has_timeslice 2 5 (omega arith) (omega arith) refl refl refl refl refl refl (λ v. refl) (mode_bits s),
      in-modes has_superframe 4 5 (omega arith) (omega arith) refl refl refl refl refl refl (λ v. refl) (mode_bits s),
    )

-- ---- how large the sizes are

-- what the mode decides: at most 13 bytes
of-mode : (m : S2Xv2Mode) (t d : Bool) → only (and (has_selector m) t) 3 + only (has_timeslice m) 1 + only (has_superframe m) (superframe_size d) ≤ 13
of-mode M.Reserved0 t d = omega arith
of-mode M.S2X true d = omega arith
of-mode M.S2X false d = omega arith
of-mode M.S2XTimeSlicing true d = omega arith
of-mode M.S2XTimeSlicing false d = omega arith
of-mode M.Reserved3 t d = omega arith
of-mode M.S2XSuperframe t true = omega arith
of-mode M.S2XSuperframe t false = omega arith
of-mode M.S2XSuperframeTimeSlicing t true = omega arith
of-mode M.S2XSuperframeTimeSlicing t false = omega arith
of-mode (M.Reserved v) t d = omega arith

of-flag : (b : Bool) → only b 1 ≤ 1
of-flag true = omega arith
of-flag false = omega arith

pub of-bond : (b d : Bool) → only b (bond_size d) ≤ 9
of-bond true true = omega arith
of-bond true false = omega arith
of-bond false d = omega arith

-- The sizes that bodies dictate run from 18 ..
pub size-range : (s : List ℕ) → (18 ≤ body_size s) × (body_size s ≤ 41)
unfolding body_size present_in
size-range s =
    let k = present_in s in
    let a = of-mode (mode_of (get_or (cut s 0 T.core) 1 0)) (is_one (get_or (cut s 0 T.core) 9 0)) (has_plan s (bond_end s k)) in
    let b = of-flag k.stream in
    let c = of-bond k.bond (has_second s (timeslice_end k)) in
    (omega arith, omega arith)

-- .. to 41: the first is that of 18 zeros, the last that of mode 5 with a stream id, two ids and a plan id.
pub size-least : body_size (replicate 18 0) ≡ 18
unfolding body_size present_in mode_of
size-least = refl

abbrev longest : List ℕ
longest = replicate 4 0 ++ (0x58 ∷ 0x04 ∷ []) ++ replicate 14 0 ++ (1 ∷ []) ++ replicate 9 0 ++ (0x40 ∷ []) ++ replicate 10 0

pub size-most : (body_size longest ≡ 41) × (length longest ≡ 41)
unfolding body_size present_in mode_of
size-most = (refl, refl)
