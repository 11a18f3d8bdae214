-- `s2xv2_measure::write_answer` meets its contract: the length call's answer is taken, then the room is tested, then list B.
-- Assumes nothing.
use mathlib.Core.Path.{◌≡◌, sym, ap, ◌∙◌}
use native.Mathlib.Omega.{arith}
use Rattle.answers.specs.Answer.{numbers, told, number_of}
use Rattle.s2xv2.specs.Length.{length_told}
use Rattle.answers.proofs.Answers.{refused}
use Rattle.s2xv2.proofs.Written.{refused-alike}
use Rattle.s2xv2_measure.proofs.Accepted.{placed, placed-none, judged-room, judged-field, judged-written}
use Rattle.std.proofs.lemmas.Result.{err_from_is_err_and}
use Rattle.s2xv2_measure.proofs.write_answer.Goals as goal

pub returns-in_err-need : goal.returns-in_err-need
returns-in_err-need c =
    let r = c.args.r in
    let t = c.args.reserved_tail.now in
    let why = c.in_err-need.field-0.0 in
    let e : numbers why ≡ length_told r t = sym (ap told c.in_err-need.was) ∙ c.serialized_len.ensures in
    let p = err_from_is_err_and c.from_residual.result c.from_residual.ensures.1 in
    rw (p.1, p.2) (e ∙ sym (refused-alike r t _ (λ z. refused why (ap number_of e ∙ z))))

pub returns-then-room-need : goal.returns-then-room-need
returns-then-room-need c =
    let a = c.args in
    let e = sym (ap told c.in_ok-need.was) ∙ c.serialized_len.ensures in
    judged-room a.r a.reserved_tail.now _ a.room e c.if-room-need.true

pub returns-in-Some : goal.returns-in-Some
returns-in-Some c =
    let a = c.args in
    let e = sym (ap told c.in_ok-need.was) ∙ c.serialized_len.ensures in
    let k = placed _ _ (sym c.unwritable.ensures ∙ c.in-Some.is) in
    judged-field a.r a.reserved_tail.now _ a.room e c.if-room-need.false _ k.0 (omega (arith, k.0, k.1))

pub returns : goal.returns
returns c =
    let a = c.args in
    let e = sym (ap told c.in_ok-need.was) ∙ c.serialized_len.ensures in
    judged-written a.r a.reserved_tail.now _ a.room e c.if-room-need.false (placed-none _ (sym c.unwritable.ensures ∙ c.in_default.is))
