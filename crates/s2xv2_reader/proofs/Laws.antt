-- A part from q to the end is what is left behind q (`rest`).
-- Assumes nothing.
use Rattle.std.specs.Prelude.{◌≡◌, ℕ, ◌-◌, List, length, take, drop}
use native.Mathlib.Nat.{le_refl}
use lib.ListN.{length-drop}
use lib.Seq.{take_all}

pub rest : (q : ℕ) (s : List ℕ) → take (length s - q) (drop q s) ≡ drop q s
rest q s = take_all (length s - q) (drop q s) (rw length-drop (le_refl (length s - q)))
