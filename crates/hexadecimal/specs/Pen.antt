-- A text half read: what is stored, and the digit that waits for its second. Assumes nothing.
-- `held_in`  that digit, as a list of one, or of none
-- `Low`      every number of a list is a digit's
-- `Moved`    some more digits have come, said of a sheet and the held digit before and after
use Rattle.std.specs.Prelude.{ℕ, ◌<◌, ◌≡◌, List, [], ◌∷◌, ◌++◌, Option, Some, None}
use Rattle.lines.specs.Out.{write}
use Rattle.lines.specs.Sheet.{buffer_of, out_of}
use Rattle.lines.specs.declared.sheet.Sheet.{Sheet}
use Rattle.hexadecimal.specs.Text.{pairs_of}

abbrev pub held_in : Option ℕ → List ℕ
held_in (Some h) = h ∷ []
held_in None = []

abbrev pub Low : List ℕ → Type 0
Low [] = Unit {0}
Low (d ∷ ds) = (d < 16) × Low ds

-- whatever comes behind the new digits, the same is stored in the end, in the same buffer; what is held is still a digit
pub record Moved (sheet : Sheet) (high : Option ℕ) (more : List ℕ) (sheet' : Sheet) (high' : Option ℕ) : Type 0 where
  pub low : Low (held_in high')
  pub buffer : buffer_of sheet' ≡ buffer_of sheet
  pub same : (rest : List ℕ)
      → write (out_of sheet) (pairs_of (held_in high ++ (more ++ rest)))
      ≡ write (out_of sheet') (pairs_of (held_in high' ++ rest))
