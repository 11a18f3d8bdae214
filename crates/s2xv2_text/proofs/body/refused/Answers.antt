-- `s2xv2_text::body::refused` meets its contract: one text after the other.
-- Assumes nothing.
use Rattle.lines.specs.Line.{refused_of}
use Rattle.lines.proofs.Laws.{then3}
use Rattle.s2xv2_text.proofs.body.refused.Goals as goal

pub returns : goal.returns
unfolding refused_of
returns c =
    then3 c.copy.ensures
    c.numbers.ensures
    c.put.ensures
