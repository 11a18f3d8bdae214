-- `job::advance::advance` meets its contract: a fair job makes its next stores, the smaller of the allowance and those left, and one that is not fair none.
-- Assumes nothing.
use mathlib.Core.Path.{refl, sym, ◌∙◌}
use native.Mathlib.Omega.{arith}
use Rattle.job.specs.Job.{job_of}
use Rattle.job.proofs.Fairness.{fair-facts, fair-bare}
use Rattle.job.proofs.Advancing as A
use Rattle.job.proofs.advance.advance.Goals as goal

pub returns-then-not-is_fair : goal.returns-then-not-is_fair
returns-then-not-is_fair c =
    let a = c.args in
    let j = job_of a.staged.now a.n a.d a.k in
    let f = sym (fair-bare a.staged.now _ _ _ _) ∙ sym c.is_fair.ensures ∙ c.if-not-is_fair.true in
    record { told = A.refused j a.slot.now a.allowance _ f; left = A.refused-slot j a.slot.now a.allowance f }

pub overflow_add-left : goal.overflow_add-left
overflow_add-left c = let f = fair-facts _ _ (sym c.is_fair.ensures ∙ c.if-not-is_fair.false) in omega arith

pub overflow_sub-left : goal.overflow_sub-left
overflow_sub-left c = let f = fair-facts _ _ (sym c.is_fair.ensures ∙ c.if-not-is_fair.false) in omega arith

pub new-requires : goal.new-requires
new-requires c = let f = fair-facts _ _ (sym c.is_fair.ensures ∙ c.if-not-is_fair.false) in omega arith

pub make_stores-requires : goal.make_stores-requires
make_stores-requires c =
    let f = fair-facts _ _ (sym c.is_fair.ensures ∙ c.if-not-is_fair.false) in
    rw c.new.ensures (omega arith, sym f.0)

pub returns : goal.returns
returns c =
    let a = c.args in
    let j = job_of a.staged.now a.n a.d a.k in
    let f = sym (fair-bare a.staged.now _ _ _ _) ∙ sym c.is_fair.ensures ∙ c.if-not-is_fair.false in
    let k = c.min-count.ensures in
    record {
      told = A.accepted j a.slot.now a.allowance f k;
      left = A.accepted-slot j a.slot.now a.allowance f k (c.make_stores.ensures.slot ∙ rw c.new.ensures refl);
    }
