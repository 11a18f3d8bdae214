-- What follows of an answer.
-- `bytes-within`  no more bytes are stored than the buffer has
-- `example..`     what some texts decode to, or why they are refused
-- Assumes nothing.
use Prim.Native.Nat.{ℕ, ◌+◌, ◌≤◌}
use mathlib.Core.Path.{◌≡◌, refl, ◌∙◌}
use mathlib.Core.Bool.{Bool, true, false}
use mathlib.Core.List.{List, [], ◌∷◌}
use native.Mathlib.Omega.{arith}
use borrow.Author.Tests.{ltb-true}
use lib.ListN.{length, set, length-set}
use Rattle.std.specs.Prelude.{Ok, Err}
use lib.Dec.{ltb}
use Rattle.wire.specs.Flags.{when}
use Rattle.lines.specs.Out.{Out, ◌from◌, put_one, write}
use Rattle.lines.specs.Line.{codes}
use Rattle.hexadecimal.specs.Glyph.{is_blank, glyph_of}
use Rattle.hexadecimal.specs.Text.{digits_of, pairs_of, hex_bytes, other_at, is_sound, fault_of, answer_of}
use Rattle.hexadecimal.specs.declared.decode.NotHex.TheVariants as N

-- ---- how many bytes there are

-- the place is in the buffer, or at its end, and the buffer has its length
Within : ℕ → Out → Type 0
Within n o = (o.at ≤ n) × (length o.bytes ≡ n)

put-when : (t : Bool) (n : ℕ) (o : Out) (b : ℕ) → ltb o.at (length o.bytes) ≡ t → Within n o
    → Within n (when t (set o.bytes o.at b from (o.at + 1)) o)
unfolding Within
put-when true n o b e h =
    let l = length-set o.bytes o.at b in
    (omega (arith, ltb-true o.at (length o.bytes) e, h.1), l ∙ h.1)
put-when false n o b e h = h

write-within : (t : List ℕ) (n : ℕ) (o : Out) → Within n o → (write o t).at ≤ n
unfolding write put_one Within
write-within [] n o h = h.0
write-within (b ∷ bs) n o h = write-within bs n (put_one o b) (put-when (ltb o.at (length o.bytes)) n o b refl h)

pub bytes-within : (s o : List ℕ) (n : ℕ) → Ok n ≡ answer_of s o → n ≤ length o
unfolding answer_of Within
bytes-within s o n e = by (is_sound s) e
  where
    by : (t : Bool) → Ok n ≡ when t (Ok (write (o from 0) (hex_bytes s)).at) (Err (fault_of s)) → n ≤ length o
    by true e =
        let q : n ≡ (write (o from 0) (hex_bytes s)).at = cc in
        omega (arith, write-within (hex_bytes s) (length o) (o from 0) (omega arith, refl))
    by false e = cc

-- ---- examples
pub example : hex_bytes (codes "7f 0 A\n01") ≡ 0x7F ∷ 0x0A ∷ 0x01 ∷ []
unfolding digits_of pairs_of glyph_of is_blank
example = refl

pub example-other : other_at (codes "7f 0x") ≡ 4
unfolding glyph_of is_blank
example-other = refl

pub example-character : fault_of (codes "7f 0x") ≡ N.Character 4
unfolding fault_of glyph_of is_blank
example-character = refl

pub example-half : is_sound (codes "7f 0") ≡ false
unfolding is_sound digits_of glyph_of is_blank
example-half = refl

pub example-odd : fault_of (codes "7f 0") ≡ N.Odd 4
unfolding fault_of glyph_of is_blank
example-odd = refl
