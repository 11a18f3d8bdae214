-- What is written: parts one after the other. Assumes nothing.
-- `Part`, `◌⦂◌`  some widths with the values that stand there
-- `bytes_of`     the bytes of the parts, and then a tail
-- `sizes`        how many bytes the parts take
-- `AllFit`       every value is small enough for its width
use Rattle.std.specs.Prelude.{ℕ, ◌+◌, List, [], ◌∷◌, ◌++◌}
use Rattle.wire.specs.Widths.{size, pack, Fit}

pub record Part : Type 0 where
  pub widths : List ℕ
  pub values : List ℕ

infixr 90 ◌⦂◌
abbrev pub ◌⦂◌ : List ℕ → List ℕ → Part
ws ⦂ vs = record { widths = ws; values = vs }

-- the bytes of the parts, and then the tail
abbrev pub bytes_of : List Part → List ℕ → List ℕ
bytes_of [] tail = tail
bytes_of (p ∷ ps) tail = pack p.widths p.values ++ bytes_of ps tail

-- how many bytes the parts take
abbrev pub sizes : List Part → ℕ
sizes [] = 0
sizes (p ∷ ps) = size p.widths + sizes ps

-- every value is below 2 to its width
abbrev pub AllFit : List Part → Type 0
AllFit [] = Unit
AllFit (p ∷ ps) = Fit p.widths p.values × AllFit ps
