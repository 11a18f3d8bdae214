-- `form::good::form_of` meets its contract: the size is judged first, and then the walk answers.
-- Assumes nothing.
use mathlib.Core.Path.{sym, ◌∙◌}
use mathlib.Core.Bool.{false≢true}
use Rattle.form.proofs.GoodForm.{size-facts, facts-size}
use Rattle.form.proofs.Answers.{tells-size}
use Rattle.form.proofs.good.form_of.Goals as goal

pub walk-requires : goal.walk-requires
walk-requires c = size-facts _ (sym c.is_size.ensures ∙ c.if-is_size.true)

pub returns : goal.returns
returns c = tells-size _ (λ f. false≢true (sym c.if-is_size.false ∙ c.is_size.ensures ∙ facts-size _ f))
