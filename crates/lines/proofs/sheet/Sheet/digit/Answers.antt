-- `lines::sheet::Sheet::digit` meets its contract: either way its test picks the case of `digit_of`.
-- Assumes nothing.
use borrow.Author.Tests.{le-leb, lt-leb}
use Rattle.lines.specs.Number.{digit_of}
use Rattle.lines.proofs.Laws.{nothing}
use Rattle.lines.proofs.sheet.Sheet.digit.Goals as goal

pub returns-then-power-n : goal.returns-then-power-n
unfolding digit_of
returns-then-power-n c = rw (le-leb _ _ c.if-power-n.true) c.put.ensures

pub returns-else-power-n : goal.returns-else-power-n
unfolding digit_of
returns-else-power-n c = rw (lt-leb _ _ c.if-power-n.false) nothing
