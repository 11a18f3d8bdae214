-- `s2xv2_measure::checks::agrees` meets its contract: words that are equal have equal bytes.
-- Assumes nothing.
use mathlib.Core.Path.{sym, ◌∙◌}
use borrow.Author.Tests.{eqb-true, ne_eqb}
use Rattle.wire.proofs.Flags.{never}
use Rattle.s2xv2_measure.proofs.Words.{agreed}
use Rattle.s2xv2_measure.proofs.checks.agrees.Goals as goal
use Rattle.s2xv2_measure.proofs.checks.agrees.Goals.{then-said-word, else-said-word}

pub returns-then-said-eq0 : goal.returns-then-said-eq0
returns-then-said-eq0 c =
    elim c.if-said-word.branch [
      | then-said-word w ↦
          let bits = eqb-true _ _ (sym w.value-is ∙ c.if-said-eq0.true) in
          λ e. agreed c.args.b.now c.word-said.ensures c.word.ensures c.word-then-said-eq0.ensures w.if-said-word.true bits (eqb-true _ _ e ∙ c.asked.ensures)
      | else-said-word w ↦ never (sym (w.value-is ∙ ne_eqb _ _ w.if-said-word.false) ∙ c.if-said-eq0.true)
    ]

pub returns-else-said-eq0 : goal.returns-else-said-eq0
returns-else-said-eq0 c = λ e. never (sym c.if-said-eq0.false ∙ e)
