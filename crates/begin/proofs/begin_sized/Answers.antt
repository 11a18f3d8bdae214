-- `begin::begin_sized` meets its contract: the length call's answer is taken, and what it accepts goes to `fit`.
-- Assumes nothing.
use mathlib.Core.Path.{sym, ap, ◌∙◌}
use mathlib.Core.List.{List}
use Prim.Native.Nat.{ℕ}
use native.Mathlib.Omega.{arith}
use Rattle.std.proofs.lemmas.Result.{err_from_is_err_and}
use Rattle.answers.specs.Answer.{told}
use Rattle.begin.specs.Begin.{answered}
use Rattle.begin.proofs.Telling.{refuses, told-length, told_fit, length-accepted}
use Rattle.begin.proofs.begin_sized.Goals as goal

pub returns-in_err-length : goal.returns-in_err-length
returns-in_err-length c =
    let e = sym (ap told c.in_err-length.was) ∙ c.serialized_len.ensures in
    let p = err_from_is_err_and c.from_residual.result c.from_residual.ensures.1 in
    rw (p.1, p.2) (refuses _ _ _ _ _ (told-length _ _ _ _ e))

pub overflow_add-length : goal.overflow_add-length
overflow_add-length c =
    let l = length-accepted _ _ _ (sym (ap told c.in_ok-length.was) ∙ c.serialized_len.ensures) in
    omega arith

pub fit-requires : goal.fit-requires
fit-requires c =
    let l = length-accepted _ _ _ (sym (ap told c.in_ok-length.was) ∙ c.serialized_len.ensures) in
    record { slot = c.requires; size = omega arith; within = l.1.0; consistent = l.0 }

pub returns : goal.returns
returns c =
    let a = c.args in
    let l = length-accepted _ _ _ (sym (ap told c.in_ok-length.was) ∙ c.serialized_len.ensures) in
    c.fit.ensures ∙ ap (λ (t : List ℕ). answered t a.n a.r a.reserved_tail.now) (told_fit a.n _ _ l.0 l.1.0)
