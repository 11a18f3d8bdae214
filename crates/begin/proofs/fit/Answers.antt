-- `begin::fit` meets its contract: what does not fit has the law of 7, and what fits is staged.
-- Assumes nothing.
use mathlib.Core.Path.{sym, ap, ◌∙◌}
use mathlib.Core.List.{List}
use Prim.Native.Nat.{ℕ}
use Rattle.answers.specs.declared.answer.Refusal.TheVariants as R
use Rattle.job.proofs.Fairness.{fits-facts}
use Rattle.begin.specs.Begin.{answered}
use Rattle.begin.proofs.Telling.{refuses, told-no-fit, told-fits}
use Rattle.begin.proofs.fit.Goals as goal

pub returns-then-not-is_fit : goal.returns-then-not-is_fit
returns-then-not-is_fit c =
    let fits = sym c.is_fit.ensures ∙ c.if-not-is_fit.true in
    refuses _ _ _ (R.NoFit c.args.d) _ (told-no-fit c.requires fits)

pub stage-requires : goal.stage-requires
stage-requires c = (c.requires, (fits-facts _ _ (sym c.is_fit.ensures ∙ c.if-not-is_fit.false)).0)

pub returns : goal.returns
returns c =
    let a = c.args in
    let fits = sym c.is_fit.ensures ∙ c.if-not-is_fit.false in
    c.stage.ensures ∙ ap (λ (t : List ℕ). answered t a.n a.r a.reserved_tail.now) (told-fits c.requires fits)
