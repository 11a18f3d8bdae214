-- `begin::begin` meets its contract: the form is judged first, and a slot in good form goes to `begin_sized`.
-- Assumes nothing.
use mathlib.Core.Path.{sym, ap, ◌∙◌}
use mathlib.Core.List.{List}
use Prim.Native.Nat.{ℕ}
use lib.ListN.{length}
use Rattle.form.specs.declared.good.Form.TheVariants as F
use Rattle.form.proofs.GoodForm.{form-size}
use Rattle.answers.specs.declared.answer.Refusal.TheVariants as R
use Rattle.begin.specs.Begin.{answered, begin_of}
use Rattle.begin.proofs.Telling.{refuses, told-form, good-arm, told-record}
use Rattle.begin.proofs.begin.Goals as goal

pub begin_sized-requires : goal.begin_sized-requires
begin_sized-requires c = form-size _ (good-arm _ c.form_of.result c.form_of.ensures c.in-Empty.is)

pub returns-in-Size : goal.returns-in-Size
unfolding begin_of
returns-in-Size c = refuses _ _ _ R.Slot _ (told-form _ _ _ F.Size (sym c.in-Size.is ∙ c.form_of.ensures))

pub returns-in-Broken : goal.returns-in-Broken
unfolding begin_of
returns-in-Broken c = refuses _ _ _ (R.SlotForm _) _ (told-form _ _ _ (F.Broken _) (sym c.in-Broken.is ∙ c.form_of.ensures))

pub returns-in-Empty : goal.returns-in-Empty
unfolding begin_of
returns-in-Empty c =
    let a = c.args in
    let form = good-arm _ c.form_of.result c.form_of.ensures c.in-Empty.is in
    c.begin_sized.ensures ∙ ap (λ (t : List ℕ). answered t (length a.slot.now) a.r a.reserved_tail.now) (told-record _ _ _ form)
