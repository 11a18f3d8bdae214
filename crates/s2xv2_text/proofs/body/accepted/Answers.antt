-- `s2xv2_text::body::accepted` meets its contract: one text after the other.
-- Assumes nothing.
use Rattle.s2xv2_text.specs.Dump.{body_of}
use Rattle.lines.proofs.Laws.{then4}
use Rattle.s2xv2_text.proofs.body.accepted.Goals as goal

pub returns : goal.returns
unfolding body_of
returns c =
    then4 c.core.ensures
    c.parts.ensures
    c.superframe.ensures
    c.line.ensures
