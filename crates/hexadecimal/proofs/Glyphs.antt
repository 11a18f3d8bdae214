-- A law of one character.
-- `digit_low`  a digit is below 16
-- Assumes nothing.
use Prim.Native.Nat.{ℕ, ◌<◌}
use mathlib.Core.Path.{◌≡◌}
use native.Mathlib.Omega.{arith}
use Rattle.std.proofs.lemmas.Bool.Decides.{nat_tests}
use Rattle.hexadecimal.specs.Glyph.{is_blank, glyph_of}
use Rattle.hexadecimal.specs.declared.glyph.Glyph.TheVariants as G

pub digit_low : (c d : ℕ) → glyph_of c ≡ G.Digit d → d < 16
unfolding glyph_of is_blank
digit_low c d e = grind (arith, nat_tests)
