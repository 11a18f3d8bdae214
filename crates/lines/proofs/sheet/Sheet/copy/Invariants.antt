-- `lines::sheet::Sheet::copy` meets its contract. The loop's invariant: the bytes so far are put.
-- Assumes nothing.
use lib.ListN.{take}
use Rattle.lines.specs.Sheet.{Put}
use Rattle.lines.proofs.sheet.Sheet.copy.Given as goal

abbrev pub invariant-loop-b : goal.invariant-loop-b
invariant-loop-b l = Put l.initial.self (take l.b-index l.text) l.self
