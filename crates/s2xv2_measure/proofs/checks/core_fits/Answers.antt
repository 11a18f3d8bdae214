-- `s2xv2_measure::checks::core_fits` meets its contract: a word that has no bit of its mask has no field that is too wide.
-- Assumes nothing.
use mathlib.Core.Path.{sym, ◌∙◌}
use borrow.Author.Tests.{ltb-true, ne_eqb, eqb-true}
use Rattle.wire.proofs.Flags.{never}
use Rattle.s2xv2_measure.proofs.Checked.{core-clear}
use Rattle.std.proofs.Common.{◌≡◌, true, get_or}
use lib.Dec.{ltb}
use Rattle.s2xv2_measure.proofs.checks.core_fits.Goals as goal
use Rattle.s2xv2_measure.proofs.checks.core_fits.Goals.{then-word-eq0-2, else-word-eq0-2, then-word-eq0, else-word-eq0}

pub returns-then-word-eq0-3 : goal.returns-then-word-eq0-3
returns-then-word-eq0-3 c =
    elim c.if-word-eq0-2.branch [
      | then-word-eq0-2 v ↦ elim c.if-word-eq0.branch [
        | then-word-eq0 w ↦
            let second = eqb-true _ _ (sym w.value-is ∙ v.if-word-eq0-2.true) in
            let third = eqb-true _ _ (sym v.value-is ∙ c.if-word-eq0-3.true) in
            let clear = λ (e : ltb (get_or c.args.w.now 1 0) 16777216 ≡ true). core-clear c.args.w.now c.args.b.now c.word.ensures w.word-then-word-eq0.ensures v.word-then-word-eq0-2.ensures
            w.if-word-eq0.true second third (ltb-true _ _ e) in
            record { list = λ e. (clear e).0; bits = λ e. (clear e).1 }
        | else-word-eq0 w ↦ never (sym (w.value-is ∙ ne_eqb _ _ w.if-word-eq0.false) ∙ v.if-word-eq0-2.true)
      ]
      | else-word-eq0-2 v ↦ never (sym (v.value-is ∙ v.if-word-eq0-2.false) ∙ c.if-word-eq0-3.true)
    ]

pub returns-else-word-eq0-3 : goal.returns-else-word-eq0-3
returns-else-word-eq0-3 c = record {
  list = (λ e. never (sym c.if-word-eq0-3.false ∙ e));
  bits = (λ e. never (sym c.if-word-eq0-3.false ∙ e));
}
