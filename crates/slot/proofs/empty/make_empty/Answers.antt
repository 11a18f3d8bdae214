-- `slot::empty::make_empty` meets its contract: the size is tested first, and the fillers with the two bytes in front are the stuffing descriptor.
-- Assumes nothing.
use mathlib.Core.Path.{sym, ◌∙◌}
use native.Mathlib.Omega.{arith}
use lib.ListN.{length-set}
use Rattle.form.specs.Envelope.{stuffing_tag}
use Rattle.form.proofs.GoodForm.{size-facts}
use Rattle.slot.proofs.Emptying.{told-empty, told-refused, left-empty, left-refused, filled-stuffing}
use Rattle.slot.proofs.empty.make_empty.Goals as goal

pub returns-then-not-is_size : goal.returns-then-not-is_size
returns-then-not-is_size c =
    let e = sym c.is_size.ensures ∙ c.if-not-is_size.true in
    record { told = told-refused _ e; left = left-refused _ e }

pub bounds-slot-0 : goal.bounds-slot-0
bounds-slot-0 c = let f = size-facts _ (sym c.is_size.ensures ∙ c.if-not-is_size.false) in omega (arith, c.fill.ensures.len)

pub overflow_sub-slot : goal.overflow_sub-slot
overflow_sub-slot c = let f = size-facts _ (sym c.is_size.ensures ∙ c.if-not-is_size.false) in omega arith

pub overflow_cast-slot : goal.overflow_cast-slot
overflow_cast-slot c = let f = size-facts _ (sym c.is_size.ensures ∙ c.if-not-is_size.false) in omega arith

pub bounds-slot-1 : goal.bounds-slot-1
bounds-slot-1 c =
    let f = size-facts _ (sym c.is_size.ensures ∙ c.if-not-is_size.false) in
    omega (arith, length-set c.fill.new.self 0 stuffing_tag, c.fill.ensures.len)

pub returns : goal.returns
returns c =
    let e = sym c.is_size.ensures ∙ c.if-not-is_size.false in
    let f = size-facts _ e in
    record {
      told = told-empty _ e;
      left = rw (c.fill.ensures.after (λ y h. h)) (filled-stuffing _ (omega arith) ∙ left-empty _ e);
    }
