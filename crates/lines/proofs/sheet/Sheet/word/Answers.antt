-- `lines::sheet::Sheet::word` meets its contract: one text after the other.
-- Assumes nothing.
use Rattle.lines.specs.Line.{word_of}
use Rattle.lines.proofs.Laws.{then2}
use Rattle.lines.proofs.sheet.Sheet.word.Goals as goal

pub returns : goal.returns
unfolding word_of
returns c = then2 c.put.ensures c.decimal.ensures
