-- `hexadecimal::decode::bytes` meets its contract. The loop's invariant: what the rest of the text adds to the buffer as
-- it is now, is what the whole text adds to it as it was.
-- Assumes nothing.
use mathlib.Core.Path.{◌≡◌}
use mathlib.Core.List.{◌++◌}
use lib.ListN.{drop}
use Rattle.lines.specs.Out.{write}
use Rattle.lines.specs.Sheet.{buffer_of, out_of}
use Rattle.hexadecimal.specs.Text.{digits_of, pairs_of, hex_bytes}
use Rattle.hexadecimal.specs.Pen.{held_in, Low}
use Rattle.hexadecimal.proofs.decode.bytes.Given as goal

abbrev pub invariant-loop-c : goal.invariant-loop-c
invariant-loop-c l = (Low (held_in l.high))
    × (buffer_of l.sheet ≡ buffer_of l.initial.sheet)
    × (write (out_of l.initial.sheet) (hex_bytes l.text) ≡ write (out_of l.sheet) (pairs_of (held_in l.high ++ digits_of (drop l.c-index l.text))))
