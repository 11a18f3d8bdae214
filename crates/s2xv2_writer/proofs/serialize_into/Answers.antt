-- `s2xv2_writer::serialize_into` meets its contract: what is accepted is stored, and what is refused leaves the buffer.
-- Assumes nothing.
use mathlib.Core.Path.{sym, ap, subst, ◌∙◌}
use mathlib.Core.List.{◌++◌}
use Prim.Native.Nat.{ℕ, ◌≤◌}
use lib.ListN.{length, drop}
use Rattle.answers.specs.Answer.{told, number_of}
use Rattle.s2xv2.specs.Encode.{encode, encoded_length}
use Rattle.s2xv2.specs.ListB.{list_b, unwritable}
use Rattle.s2xv2.specs.declared.record.S2Xv2SatelliteDeliverySystem.{S2Xv2SatelliteDeliverySystem}
use Rattle.answers.proofs.Tests.{Clear, first-clear}
use Rattle.s2xv2.proofs.Written.{accepted-writable, written-accepted, written-refused}
use Rattle.s2xv2_writer.proofs.Flags.{packed-out}
use Rattle.std.proofs.lemmas.Result.{err_from_is_err_and}
use Rattle.s2xv2_writer.proofs.serialize_into.Goals as goal

pub returns-in_err-need : goal.returns-in_err-need
returns-in_err-need c =
    let a = c.args in
    let e = sym (ap told c.in_err-need.was) ∙ c.write_answer.ensures in
    let p = err_from_is_err_and c.from_residual.result c.from_residual.ensures.1 in
    record {
      answer = rw (p.1, p.2) e;
      buffer = sym (written-refused a.r a.reserved_tail.now a.buf.now c.in_err-need.field-0.0 e);
    }

pub put_all-requires : goal.put_all-requires
unfolding unwritable
put_all-requires c =
    let a = c.args in
    let plain = c.to_plain-plain.ensures in
    let t = a.reserved_tail.now in
    let answer = sym c.write_answer.ensures ∙ ap told c.in_ok-need.was in
    let w = accepted-writable a.r t (length a.buf.now) (ap number_of answer) in record {
      tail_in_bounds = subst (λ (r : S2Xv2SatelliteDeliverySystem). encoded_length r t ≤ length a.buf.now) (sym plain.back) w.fits;
      packed = (rw plain.plain (packed-out a.r), subst (λ (r : S2Xv2SatelliteDeliverySystem). Clear (list_b r)) (sym plain.back) (first-clear 0 (list_b a.r) w.carried));
    }

pub returns : goal.returns
returns c =
    let a = c.args in
    let t = a.reserved_tail.now in
    let e = rw c.to_plain-plain.ensures.back at c.put_all.ensures in
    let told = sym (ap told c.in_ok-need.was) ∙ c.write_answer.ensures in
    record {
      answer = told;
      buffer = e.stored ∙ ap (λ (n : ℕ). encode a.r t ++ drop n a.buf.now) e.place ∙ sym (written-accepted a.r t a.buf.now _ told);
    }
