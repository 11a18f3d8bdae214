-- `s2xv2_writer::parts::put_superframe` meets its contract: the test picks the case.
-- Assumes nothing.
use mathlib.Core.Path.{refl, sym}
use native.Mathlib.Nat.{add-zero}
use Rattle.wire.specs.Store.{stored_from}
use borrow.Author.Tests.{eq-eqb, ne_eqb}
use Rattle.s2xv2.specs.Encode.{superframe_parts}
use Rattle.s2xv2_writer.proofs.parts.put_superframe.Goals as goal

pub put_block-requires : goal.put_block-requires
unfolding superframe_parts
put_block-requires c =
    let e = ne_eqb _ _ c.if-b-ne0.true in
    record { b_in_bounds = rw e at c.requires.b_in_bounds; packed = (c.requires.packed.0, rw e at c.requires.packed.1) }

pub returns-then-b-ne0 : goal.returns-then-b-ne0
unfolding superframe_parts
returns-then-b-ne0 c =
    let e = c.put_block.ensures in
    rw (ne_eqb _ _ c.if-b-ne0.true) (record { place = e.place; stored = e.stored })

pub returns-else-b-ne0 : goal.returns-else-b-ne0
unfolding superframe_parts stored_from
returns-else-b-ne0 c = rw (eq-eqb _ _ c.if-b-ne0.false) (record { place = sym (add-zero _); stored = refl })
