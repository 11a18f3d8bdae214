-- `hexadecimal::decode::count_part` meets its contract. The loop's invariant: the digits before the place are counted.
-- Assumes nothing.
use mathlib.Core.Path.{◌≡◌}
use lib.ListN.{take}
use Rattle.std.specs.Prelude.{count_by}
use Rattle.hexadecimal.specs.Glyph.{glyph_of, is_digit}
use Rattle.hexadecimal.proofs.decode.count_part.Given as goal

abbrev pub invariant-loop-c : goal.invariant-loop-c
invariant-loop-c l = l.n ≡ count_by (λ c. is_digit (glyph_of c)) (take l.c-index l.part)
