-- `s2xv2_writer::parts::put_plan` meets its contract: in each case.
-- Assumes nothing.
use mathlib.Core.Path.{refl, sym}
use native.Mathlib.Omega.{arith}
use native.Mathlib.Nat.{add-zero}
use Rattle.wire.specs.Store.{stored_from}
use borrow.Author.Tests.{eq-eqb, ne_eqb}
use Rattle.s2xv2_writer.proofs.parts.put_plan.Goals as goal

pub copy-requires : goal.copy-requires
copy-requires c =
    let h = rw (ne_eqb _ _ c.if-there-ne0.true) at c.requires in
    omega arith

pub returns-then-there-ne0 : goal.returns-then-there-ne0
returns-then-there-ne0 c = rw (ne_eqb _ _ c.if-there-ne0.true) (record { place = refl; stored = rw c.be_bytes.ensures at c.copy.ensures })

pub returns-else-there-ne0 : goal.returns-else-there-ne0
unfolding stored_from
returns-else-there-ne0 c = rw (eq-eqb _ _ c.if-there-ne0.false) (record { place = sym (add-zero _); stored = refl })
