-- `s2xv2_lists::list_a::inconsistency` meets its contract: the tests of the array are those of the list.
-- Assumes nothing.
use Rattle.s2xv2.specs.ListA.{inconsistency}
use Rattle.s2xv2_lists.proofs.list_a.inconsistency.Goals as goal

pub returns : goal.returns
unfolding inconsistency
returns c =
    simp (
      c.first_from.ensures,
      c.plan_stray.ensures,
      c.sffi_stray.ensures,
      c.bonds_stray.ensures,
      c.differs-4.ensures,
      c.differs-3.ensures,
      c.differs-2.ensures,
      c.differs.ensures,
      c.is_some-5.ensures,
      c.is_some-4.ensures,
      c.is_some-3.ensures,
      c.is_some-2.ensures,
      c.is_some.ensures,
      c.is_misnamed.ensures,
      c.unwrap_or-selected.ensures,
      c.row-row.ensures,
    )
