-- `s2xv2_fields::core_part::core` meets its contract: the lists of lines one after the other are the whole.
-- Assumes nothing.
use Rattle.s2xv2_fields.specs.Fields.{core_lines, core_text}
use Rattle.s2xv2_fields.proofs.Laws.{and_then}
use Rattle.s2xv2_fields.proofs.core_part.core.Goals as goal

pub returns : goal.returns
unfolding core_text core_lines
returns c =
    and_then _ _ c.start.ensures
    (and_then _ _ c.flags.ensures
    (and_then _ _ c.bond.ensures
    c.carrier.ensures))
