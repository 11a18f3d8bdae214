-- `begin::begin_plain` meets its contract: the form is judged first, and a slot in good form goes to `sized_plain`.
-- Assumes nothing.
use mathlib.Core.Path.{sym, ap, ◌∙◌}
use mathlib.Core.List.{List}
use Prim.Native.Nat.{ℕ}
use lib.ListN.{length}
use Rattle.s2xv2_plain.specs.Input.{meant}
use Rattle.answers.specs.declared.answer.Refusal.TheVariants as R
use Rattle.form.specs.declared.good.Form.TheVariants as F
use Rattle.form.proofs.GoodForm.{form-size}
use Rattle.begin.specs.Begin.{answered, begin_of}
use Rattle.begin.proofs.Telling.{refuses, crossed, told-form, good-arm, told-record}
use Rattle.begin.proofs.begin_plain.Goals as goal

pub sized_plain-requires : goal.sized_plain-requires
sized_plain-requires c =
    form-size _ (good-arm _ c.form_of.result c.form_of.ensures c.in-Empty.is)

pub returns-in-Size : goal.returns-in-Size
unfolding begin_of
returns-in-Size c =
    let e = c.refused_plain.ensures in
    let told = told-form _ _ _ F.Size (sym c.in-Size.is ∙ c.form_of.ensures) in
    let w = crossed (refuses _ _ _ R.Slot _ told) e.answer e.bytes e.numbers in
    record { answer = w.0; bytes = w.1.0; numbers = w.1.1 }

pub returns-in-Broken : goal.returns-in-Broken
unfolding begin_of
returns-in-Broken c =
    let e = c.refused_plain-in-Broken.ensures in
    let told = told-form _ _ _ (F.Broken _) (sym c.in-Broken.is ∙ c.form_of.ensures) in
    let w = crossed (refuses _ _ _ (R.SlotForm _) _ told) e.answer e.bytes e.numbers in
    record { answer = w.0; bytes = w.1.0; numbers = w.1.1 }

pub returns-in-Empty : goal.returns-in-Empty
unfolding begin_of
returns-in-Empty c =
    let a = c.args in
    let r = meant a.w.now a.b.now in
    let e = c.sized_plain.ensures in
    let form = good-arm _ c.form_of.result c.form_of.ensures c.in-Empty.is in
    let told = told-record a.slot.now r a.reserved_tail.now form in
    let w = crossed (ap (λ (t : List ℕ). answered t (length a.slot.now) r a.reserved_tail.now) told) e.answer e.bytes e.numbers in
    record { answer = w.0; bytes = w.1.0; numbers = w.1.1 }
