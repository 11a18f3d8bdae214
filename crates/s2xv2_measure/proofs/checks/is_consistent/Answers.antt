-- `s2xv2_measure::checks::is_consistent` meets its contract: what all three tests pass is what no test of list A refuses.
-- Assumes nothing.
use mathlib.Core.Path.{sym, ◌∙◌}
use Rattle.wire.proofs.Flags.{never}
use Rattle.s2xv2_measure.proofs.Checked.{consistent}
use Rattle.s2xv2_measure.proofs.checks.is_consistent.Goals as goal
use Rattle.s2xv2_measure.proofs.checks.is_consistent.Goals.{then-agrees, else-agrees}

pub returns-then-selector_agrees : goal.returns-then-selector_agrees
returns-then-selector_agrees c =
    elim c.if-agrees.branch [
      | then-agrees w ↦
          let b = c.args.b.now in
          let agrees = c.agrees.ensures w.if-agrees.true in
          let selector = w.selector_agrees.ensures (sym w.value-is ∙ c.if-selector_agrees.true) in
          record { agrees = λ e. agrees; list = λ e ws. consistent ws b agrees selector (c.bonds_agree.ensures e) }
      | else-agrees w ↦ never (sym (w.value-is ∙ w.if-agrees.false) ∙ c.if-selector_agrees.true)
    ]

pub returns-else-selector_agrees : goal.returns-else-selector_agrees
returns-else-selector_agrees c = record {
  agrees = (λ e. never (sym c.if-selector_agrees.false ∙ e));
  list = (λ e ws. never (sym c.if-selector_agrees.false ∙ e));
}
