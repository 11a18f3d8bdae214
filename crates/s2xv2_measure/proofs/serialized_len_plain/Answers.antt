-- `s2xv2_measure::serialized_len_plain` meets its contract: what list A passes is told its length, and the rest goes the long way.
-- Assumes nothing.
use mathlib.Core.Path.{ap, ◌∙◌}
use native.Mathlib.Omega.{arith}
use Rattle.s2xv2.specs.Encode.{encoded_length}
use Rattle.s2xv2_plain.specs.Input.{meant}
use Rattle.answers.specs.Plain.{answer_out}
use Rattle.s2xv2_measure.proofs.Accepted.{ready-length}
use Rattle.s2xv2_measure.proofs.Checked.{counted}
use Rattle.s2xv2_measure.proofs.serialized_len_plain.Goals as goal

pub parts_len-requires : goal.parts_len-requires
parts_len-requires c =
    let a = c.args in
    counted a.w.now a.b.now (c.is_consistent.ensures.agrees c.if-is_consistent.true)

pub returns-then-need-le4096 : goal.returns-then-need-le4096
unfolding encoded_length
returns-then-need-le4096 c =
    let w = c.args.w.now in
    let b = c.args.b.now in
    let list = c.is_consistent.ensures.list c.if-is_consistent.true w in
    let p = c.parts_len.ensures.size w in
    let t = c.tail_len.ensures in
    let h = c.if-need-le4096.true in
    c.accepted.ensures ∙ ap answer_out (ready-length (meant w b) c.args.reserved_tail.now _ 0 list (omega (arith, p, t, h)) h)
