-- `s2xv2_writer::write_ready` meets its contract: what the quick tests pass is stored.
-- Assumes nothing.
use mathlib.Core.Path.{refl}
use Rattle.s2xv2_plain.specs.Input.{meant}
use Rattle.s2xv2_writer.proofs.Ready.{ready-clear, ready-wrote}
use Rattle.s2xv2_writer.proofs.write_ready.Goals as goal

pub put_all-requires-clause-packed : goal.put_all-requires-clause-packed
put_all-requires-clause-packed c =
    let a = c.args in
    let ready = c.if-not-is_ready.ensures in
    (ready.bits refl, ready-clear (meant a.w.now a.b.now) _ _ (ready.told refl))

pub returns-clause-wrote : goal.returns-clause-wrote
returns-clause-wrote c =
    let a = c.args in
    let e = c.put_all.ensures in
    ready-wrote (meant a.w.now a.b.now) a.reserved_tail.now a.buf.now _ _ (c.if-not-is_ready.ensures.told refl) e.place e.stored
