-- `hexadecimal::decode::step` meets its contract: a digit is below 16.
-- Assumes nothing.
use mathlib.Core.Path.{sym, ◌∙◌}
use Rattle.hexadecimal.proofs.Glyphs.{digit_low}
use Rattle.hexadecimal.proofs.decode.step.Goals as goal

pub add-requires : goal.add-requires
add-requires c = (c.requires, digit_low _ _ (sym c.glyph_of.ensures ∙ c.in-Digit.is))
