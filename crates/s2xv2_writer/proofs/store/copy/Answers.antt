-- `s2xv2_writer::store::copy` meets its contract: a part that is written at once is a run of stores.
-- Assumes nothing.
use Prim.Native.Nat.{◌+◌}
use lib.ListN.{length}
use borrow.Rule.Slice.PartMut.{Post-is}
use native.Mathlib.Omega.{arith}
use Rattle.s2xv2_writer.proofs.Laws.{stored-part}
use Rattle.s2xv2_writer.proofs.store.copy.Goals as goal

pub returns : goal.returns
returns c =
    let l = c.args.buf.now in
    let p = c.args.p in
    let t = c.args.t.now in
    rw (c.copy_from_slice.ensures.after, Post-is p (p + length t) l (omega arith)) (stored-part l p t c.requires)
