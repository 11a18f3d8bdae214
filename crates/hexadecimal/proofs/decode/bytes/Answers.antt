-- `hexadecimal::decode::bytes` meets its contract: one character more is taken into the sheet.
-- Assumes nothing.
use Prim.Native.Nat.{◌+◌}
use mathlib.Core.Path.{refl, sym, ◌∙◌}
use lib.ListN.{drop}
use Rattle.lines.specs.Out.{write}
use Rattle.hexadecimal.specs.Text.{digits_of}
use Rattle.hexadecimal.proofs.Texts.{digits_more, digits-end, none-held}
use Rattle.hexadecimal.proofs.decode.bytes.Goals as goal

pub loop-c-init : goal.loop-c-init
loop-c-init c = (tt, refl, refl)

pub step-high-requires : goal.step-high-requires
step-high-requires c = c.loop-c.invariant.0

pub loop-c-preserved : goal.loop-c-preserved
loop-c-preserved c =
    let s = c.args.text.now in
    let l = c.loop-c in
    let m = c.step-high.ensures in
    (m.low, m.buffer ∙ l.invariant.1, l.invariant.2 ∙ rw (digits_more s l.c-index c.loop-c-test.true) (m.same (digits_of (drop (l.c-index + 1) s))))

pub returns : goal.returns
unfolding write
returns c =
    let s = c.args.text.now in
    let l = c.loop-c in
    record { same = l.invariant.1; wrote = record { is = sym (l.invariant.2 ∙ rw (digits-end s l.c-index c.loop-c-test.false, none-held)) } }
