-- Text that goes into a lent buffer from a place on, as far as the buffer reaches. Assumes nothing.
-- `Out`, `◌from◌`  a buffer and the place
-- `put_one`        both after one byte is put there
-- `write`          both after a text is put there
-- `Wrote`          a text was put there, said of a buffer and place before and after
-- `joined`         one text after the other
use Rattle.std.specs.Prelude.{ℕ, ◌+◌, ◌≡◌, List, [], ◌∷◌, ◌++◌, length, set, ltb}
use Rattle.wire.specs.Flags.{when}

pub record Out : Type 0 where
  pub bytes : List ℕ
  pub at : ℕ

infixr 90 ◌from◌
abbrev pub ◌from◌ : List ℕ → ℕ → Out
bytes from at = record { bytes = bytes; at = at }

-- the byte stands at the place and the place is the next one; nothing happens where the buffer ends
unfoldable pub put_one : Out → ℕ → Out
put_one o b = when (ltb o.at (length o.bytes)) (set o.bytes o.at b from (o.at + 1)) o

unfoldable pub write : Out → List ℕ → Out
write o [] = o
write o (b ∷ bs) = write (put_one o b) bs

pub record Wrote (before : Out) (text : List ℕ) (after : Out) : Type 0 where
  pub is : after ≡ write before text

unfoldable pub joined : List (List ℕ) → List ℕ
joined [] = []
joined (t ∷ ts) = t ++ joined ts
