-- `job::next::Next::store` meets its contract: each return has the law of the next store at its number.
-- Assumes nothing.
use mathlib.Core.Path.{sym, ap, subst, ◌∙◌}
use native.Mathlib.Omega.{arith}
use Rattle.job.specs.Job.{Fair, next_store}
use Rattle.job.proofs.Places.{numbers, next-first, next-own, next-stuffing, next_last}
use Rattle.job.proofs.next.Next.store.Goals as goal

pub returns-then-self-lt2 : goal.returns-then-self-lt2
returns-then-self-lt2 c =
    let e = numbers c.self.view_is in
    c.first_store.ensures ∙ next-first _ (subst Fair c.self.view_is c.self.invariant) (omega arith)

pub returns-then-self : goal.returns-then-self
returns-then-self c = c.store_at.ensures ∙ next-own _ c.self.invariant (omega arith) (omega arith) ∙ ap next_store c.self.view_is

pub returns-then-self-2 : goal.returns-then-self-2
returns-then-self-2 c =
    let e = numbers c.self.view_is in
    c.last_store.ensures ∙ next_last _ (subst Fair c.self.view_is c.self.invariant) (omega arith) (omega arith)

pub returns : goal.returns
returns c =
    let b = rw (sym c.self.view_is) at c.stuffing_byte.ensures in
    c.store_at-2.ensures ∙ next-stuffing _ c.self.invariant b (omega arith) (omega arith) ∙ ap next_store c.self.view_is
