-- `lines::sheet::Sheet::words` meets its contract. The loop's invariant: the numbers so far are put.
-- Assumes nothing.
use lib.ListN.{take}
use Rattle.lines.specs.Line.{words_of}
use Rattle.lines.specs.Sheet.{Put}
use Rattle.lines.proofs.sheet.Sheet.words.Given as goal

abbrev pub invariant-loop-n : goal.invariant-loop-n
invariant-loop-n l = Put l.initial.self (words_of (take l.n-index l.numbers)) l.self
