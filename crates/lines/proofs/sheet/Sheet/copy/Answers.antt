-- `lines::sheet::Sheet::copy` meets its contract: one byte more is put behind those so far.
-- Assumes nothing.
use native.Mathlib.Numerals.{add-one}
use lib.Seq.{take-suc}
use Rattle.lines.proofs.Laws.{nothing, both}
use Rattle.lines.proofs.sheet.Sheet.copy.Goals as goal

pub loop-b-init : goal.loop-b-init
loop-b-init c = nothing

pub loop-b-preserved : goal.loop-b-preserved
loop-b-preserved c =
    let l = c.loop-b in
    rw (add-one, take-suc c.args.text.now l.b-index 0 c.loop-b-test.true) (both l.invariant c.put.ensures)
