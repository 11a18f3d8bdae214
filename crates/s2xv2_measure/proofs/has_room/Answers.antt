-- `s2xv2_measure::has_room` meets its contract: a record that fits has at most 44 bytes without its tail, and any other is measured.
-- Assumes nothing.
use Prim.Native.Nat.{◌+◌}
use lib.Dec.{leb}
use native.Mathlib.Omega.{arith}
use borrow.Author.Tests.{leb-true}
use Rattle.s2xv2_measure.proofs.Sizes.{most}
use Rattle.s2xv2_measure.proofs.Checked.{both_hold}
use Rattle.s2xv2_measure.proofs.has_room.Goals as goal

pub returns-then-tail-room : goal.returns-then-tail-room
returns-then-tail-room c =
    let b = c.args.b.now in record {
      within = (λ e ws. omega (arith, most ws b c.requires, c.if-tail-le4052.true));
      fits = (λ e ws. omega (arith, most ws b c.requires, c.if-tail-room.true));
    }

pub returns : goal.returns
returns c =
    let t = c.tail_len.ensures in
    let p = c.parts_len.ensures.size in
    let need = c.parts_len.result + c.tail_len.result in
    let room = c.args.room in
    let held = both_hold (leb need 4096) (leb need room) in record {
      within = (λ e ws. omega (arith, p ws, t, leb-true need 4096 (held e).0));
      fits = (λ e ws. omega (arith, p ws, t, leb-true need 4096 (held e).0, leb-true need room (held e).1));
    }
