-- `begin::stage_plain` meets its contract: the size is the writer's length with the envelope's, and the staged bytes are the descriptor, 0 after it.
-- Assumes nothing.
use native.Mathlib.Omega.{arith}
use Rattle.s2xv2_plain.specs.Input.{meant}
use Rattle.begin.proofs.Staging.{length-told, stages}
use Rattle.begin.proofs.stage_plain.Goals as goal

pub overflow_add-staged : goal.overflow_add-staged
overflow_add-staged c =
    let a = c.args in
    let w = c.write_ready in
    let l = length-told a.staged.now c.requires (meant a.w.now a.b.now) a.reserved_tail.now w.new.buf _ c.in_ok-length.ensures.wrote in
    omega (arith, l.0, l.1)

pub overflow_cast-staged : goal.overflow_cast-staged
overflow_cast-staged c =
    let a = c.args in
    let w = c.write_ready in
    let l = length-told a.staged.now c.requires (meant a.w.now a.b.now) a.reserved_tail.now w.new.buf _ c.in_ok-length.ensures.wrote in
    omega (arith, l.0, l.1)

pub overflow_add-result : goal.overflow_add-result
overflow_add-result c =
    let a = c.args in
    let w = c.write_ready in
    let l = length-told a.staged.now c.requires (meant a.w.now a.b.now) a.reserved_tail.now w.new.buf _ c.in_ok-length.ensures.wrote in
    omega (arith, l.0, l.1)

pub returns : goal.returns
returns c =
    let a = c.args in
    stages a.staged.now c.requires (meant a.w.now a.b.now) a.reserved_tail.now c.write_ready.new.buf _ c.in_ok-length.ensures.wrote
