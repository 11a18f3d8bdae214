-- What stands behind a flag that says absent is not looked at: `present_numbers` and `present_bytes` have 0 there, and mean the same record
-- (`absent-ignored`). The places are those of `meant`.
-- Assumes nothing.
use mathlib.Core.Path.{◌≡◌, refl}
use mathlib.Core.Bool.{Bool, true, false}
use mathlib.Core.List.{List, [], ◌∷◌, ◌++◌, map}
use Prim.Native.Nat.{ℕ}
use lib.ListN.{get_or}
use Rattle.wire.specs.Flags.{when, only}
use Rattle.s2xv2_plain.specs.Input.{is_set, block_in, meant}
use Rattle.std.specs.Bool.{then_some}

-- with the flag of the block beside them
abbrev numbers_under : Bool → List ℕ → List ℕ → List ℕ
numbers_under t ws bs =
    get_or ws 0 0
    ∷ get_or ws 1 0
    ∷ get_or ws 2 0
    ∷ get_or ws 3 0
    ∷ only (is_set (get_or bs 5 0)) (get_or ws 4 0)
    ∷ get_or ws 5 0
    ∷ get_or ws 6 0
    ∷ only t (get_or ws 7 0)
    ∷ only t (get_or ws 8 0)
    ∷ only t (only (is_set (get_or bs 7 0)) (get_or ws 9 0))
    ∷ []

-- what stands at these places, whatever a flag says
abbrev kept : List ℕ → List ℕ → List ℕ
kept bs = map (λ (i : ℕ). get_or bs i 0)

abbrev bytes_under : Bool → List ℕ → List ℕ
bytes_under t bs =
    get_or bs 0 0
    ∷ only (is_set (get_or bs 9 0)) (get_or bs 1 0)
    ∷ only t (get_or bs 2 0)
    ∷ only t (get_or bs 3 0)
    ∷ get_or bs 4 0
    ∷ get_or bs 5 0
    ∷ only t (get_or bs 6 0)
    ∷ only t (get_or bs 7 0)
    ∷ kept bs (8 ∷ 9 ∷ 10 ∷ 11 ∷ 12 ∷ 13 ∷ 14 ∷ 15 ∷ 16 ∷ 17 ∷ 18 ∷ 19 ∷ 20 ∷ 21 ∷ 22 ∷ 23 ∷ [])
    ++ (only (is_set (get_or bs 4 0)) (get_or bs 24 0)
    ∷ only (is_set (get_or bs 10 0)) (get_or bs 25 0)
    ∷ get_or bs 26 0
    ∷ only t (get_or bs 27 0)
    ∷ only t (get_or bs 28 0)
    ∷ only t (only (is_set (get_or bs 6 0)) (get_or bs 29 0))
    ∷ only t (get_or bs 30 0)
    ∷ only t (get_or bs 31 0)
    ∷ only t (get_or bs 32 0)
    ∷ 0
    ∷ 0
    ∷ 0
    ∷ [])

abbrev pub present_numbers : List ℕ → List ℕ → List ℕ
present_numbers ws bs = numbers_under (is_set (get_or bs 11 0)) ws bs

abbrev pub present_bytes : List ℕ → List ℕ
present_bytes bs = bytes_under (is_set (get_or bs 11 0)) bs

-- what is taken only where a flag is set is the same whatever stands there where it is clear
behind : {X Y : Type 0} (f : X → Y) (t : Bool) (v w : X) → then_some t (f (when t v w)) ≡ then_some t (f v)
behind f true v w = refl
behind f false v w = refl

block : (ws bs : List ℕ) (t : Bool) → then_some t (block_in (numbers_under t ws bs) (bytes_under t bs)) ≡ then_some t (block_in ws bs)
block ws bs true = simp (behind (λ (v : ℕ). v))
block ws bs false = refl

pub absent-ignored : (ws bs : List ℕ) → meant (present_numbers ws bs) (present_bytes bs) ≡ meant ws bs
absent-ignored ws bs = rw (block ws bs (is_set (get_or bs 11 0))) (simp (behind (λ (v : ℕ). v), behind is_set))
