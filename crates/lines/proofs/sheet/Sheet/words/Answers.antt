-- `lines::sheet::Sheet::words` meets its contract: one number more is put behind those so far.
-- Assumes nothing.
use native.Mathlib.Numerals.{add-one}
use lib.Seq.{take-suc}
use Rattle.lines.specs.Out.{joined}
use Rattle.lines.specs.Line.{words_of}
use Rattle.lines.proofs.Laws.{nothing, both, words_more}
use Rattle.lines.proofs.sheet.Sheet.words.Goals as goal

pub loop-n-init : goal.loop-n-init
unfolding words_of joined
loop-n-init c = nothing

pub loop-n-preserved : goal.loop-n-preserved
loop-n-preserved c =
    let l = c.loop-n in
    rw (add-one, take-suc c.args.numbers.now l.n-index 0 c.loop-n-test.true, words_more) (both l.invariant c.word.ensures)
