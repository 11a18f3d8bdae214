-- `begin::stage` meets its contract: the writer's answer is begin's where it refuses, and where it accepts the staged bytes are the descriptor, 0 after it.
-- Assumes nothing.
use mathlib.Core.Path.{sym, ap, ◌∙◌}
use Rattle.std.proofs.lemmas.Result.{err_from_is_err_and}
use Rattle.answers.specs.Answer.{told}
use Rattle.begin.proofs.Telling.{refuses, told-field}
use Rattle.begin.proofs.Staging.{small, staged-accepted}
use Rattle.begin.proofs.stage.Goals as goal

pub returns-in_err-serialize_into : goal.returns-in_err-serialize_into
returns-in_err-serialize_into c =
    let q = c.requires in
    let e = sym (ap told c.in_err-serialize_into.was) ∙ c.serialize_into.ensures.answer in
    let p = err_from_is_err_and c.from_residual.result c.from_residual.ensures.1 in
    rw (p.1, p.2) (refuses _ _ _ _ _ (told-field _ _ _ _ q.0.consistent q.0.within (small q.0 q.1) _ e))

pub returns : goal.returns
returns c =
    let q = c.requires in
    let w = c.serialize_into.ensures in
    let e = sym (ap told c.in_ok-serialize_into.was) ∙ w.answer in
    simp c.job_of.ensures (staged-accepted q.0 q.1 _ _ e w.buffer)
