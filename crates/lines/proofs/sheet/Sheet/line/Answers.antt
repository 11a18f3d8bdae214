-- `lines::sheet::Sheet::line` meets its contract: one text after the other.
-- Assumes nothing.
use Rattle.lines.specs.Line.{line_of}
use Rattle.lines.proofs.Laws.{then4}
use Rattle.lines.proofs.sheet.Sheet.line.Goals as goal

pub returns : goal.returns
unfolding line_of
returns g c = rw (← c.to_u64.ensures) (then4 c.copy.ensures c.put.ensures c.decimal.ensures c.put-2.ensures)
