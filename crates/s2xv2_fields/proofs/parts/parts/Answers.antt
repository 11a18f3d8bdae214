-- `s2xv2_fields::parts::parts` meets its contract: one text after the other.
-- Assumes nothing.
use Rattle.s2xv2_fields.specs.Fields.{parts_text}
use Rattle.lines.proofs.Laws.{then4}
use Rattle.s2xv2_fields.proofs.parts.parts.Goals as goal

pub returns : goal.returns
unfolding parts_text
returns c =
    then4 c.part.ensures
    c.scrambling.ensures
    c.part-2.ensures
    c.bonds.ensures
