-- `s2xv2_layout::present::present_in` meets its contract: each call gives what the definition makes of the core.
-- Assumes nothing.
use Rattle.s2xv2.specs.Read.{present_in}
use Rattle.s2xv2_layout.proofs.present.present_in.Goals as goal

pub returns : goal.returns
unfolding present_in
returns c =
    simp (
      c.field-2.ensures,
      c.byte-2.ensures,
      c.flag_at-2.ensures,
      c.flag_at.ensures,
      c.row-row.ensures,
      c.from_u8.ensures,
      c.field.ensures,
      c.byte.ensures,
    )
