-- `s2xv2_writer::parts::put_scrambling` meets its contract: in each case.
-- Assumes nothing.
use mathlib.Core.Path.{refl, sym, ap}
use native.Mathlib.Omega.{arith}
use native.Mathlib.Nat.{add-zero}
use Rattle.wire.specs.Store.{stored_from}
use Rattle.wire.specs.Flags.{not}
use Rattle.wire.proofs.Wide.{narrow-if}
use borrow.Author.Tests.{eq-eqb, ne_eqb}
use Rattle.s2xv2.specs.Encode.{scrambling_parts}
use Rattle.s2xv2_writer.proofs.parts.put_scrambling.Goals as goal

pub index_word-requires : goal.index_word-requires
index_word-requires c =
    let set = ap not (ne_eqb _ _ c.if-there-ne0.true) in
    (narrow-if _ 6 _ c.requires.index_value.1 set, narrow-if _ 18 _ c.requires.index_value.0 set)

pub copy-requires : goal.copy-requires
unfolding scrambling_parts
copy-requires c =
    let h = rw (ne_eqb _ _ c.if-there-ne0.true) at c.requires.index_in_bounds in
    omega arith

pub returns-then-there-ne0 : goal.returns-then-there-ne0
unfolding scrambling_parts
returns-then-there-ne0 c =
    rw (ne_eqb _ _ c.if-there-ne0.true) (record { place = refl; stored = rw (c.be_bytes_24.ensures, c.index_word.ensures) at c.copy.ensures })

pub returns-else-there-ne0 : goal.returns-else-there-ne0
unfolding scrambling_parts stored_from
returns-else-there-ne0 c = rw (eq-eqb _ _ c.if-there-ne0.false) (record { place = sym (add-zero _); stored = refl })
