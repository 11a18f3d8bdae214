-- `lines::sheet::Sheet::decimal` meets its contract. The loop's invariant: the digits of the powers so far are put.
-- Assumes nothing.
use mathlib.Core.List.{map}
use lib.ListN.{take}
use Rattle.lines.specs.Out.{joined}
use Rattle.lines.specs.Number.{digit_of}
use Rattle.lines.specs.Sheet.{Put}
use Rattle.lines.proofs.sheet.Sheet.decimal.Given as goal

abbrev pub invariant-loop-power : goal.invariant-loop-power
invariant-loop-power l = Put l.initial.self (joined (map (digit_of l.n) (take l.power-index l.power-items))) l.self
