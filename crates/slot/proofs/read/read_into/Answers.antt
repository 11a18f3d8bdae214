-- `slot::read::read_into` meets its contract: the form says which of the cases it is.
-- Assumes nothing.
use mathlib.Core.Path.{◌≡◌, sym, ap, ◌∙◌}
use mathlib.Core.List.{List}
use Prim.Native.Nat.{ℕ}
use Rattle.s2xv2.specs.Default.{default_record}
use Rattle.s2xv2_plain.specs.Output.{numbers_of, bytes_of}
use Rattle.form.specs.declared.good.Form.TheVariants as F
use Rattle.slot.specs.Answer.{slot_told}
use Rattle.slot.specs.Read.{Shown, without}
use Rattle.std.specs.Prelude.{Option, Result}
use Rattle.answers.specs.declared.answer.Refusal.{Refusal}
use Rattle.answers.specs.declared.plain.PlainPart.{PlainPart}
use Rattle.slot.proofs.Reading.{shows, body-size, tells-body, holds-body}
use Rattle.slot.proofs.read.read_into.Goals as goal

-- where there is no record, what is told and stored is what is shown
none-told : {x : Shown} {r a : Result (Option PlainPart) Refusal} → without (slot_told a) ≡ x → r ≡ a → slot_told r ≡ x.reading.told
none-told d e = ap slot_told e ∙ ap (λ (x : Shown). x.reading.told) d

none-numbers : {x : Shown} {w l : List ℕ} → without l ≡ x → w ≡ numbers_of default_record → w ≡ numbers_of x.reading.body
none-numbers d e = e ∙ ap (λ (x : Shown). numbers_of x.reading.body) d

none-bytes : {x : Shown} {b l : List ℕ} → without l ≡ x → b ≡ bytes_of default_record → b ≡ bytes_of x.reading.body
none-bytes d e = e ∙ ap (λ (x : Shown). bytes_of x.reading.body) d

pub body_at-requires : goal.body_at-requires
body_at-requires c = sym c.form_of.ensures ∙ c.in-Ours.is

pub read_body-requires : goal.read_body-requires
read_body-requires c =
    body-size _ _ (sym c.form_of.ensures ∙ c.in-Ours.is) _ c.body_at.ensures

pub returns-in-Size : goal.returns-in-Size
returns-in-Size c =
    let d = shows _ F.Size (sym c.in-Size.is ∙ c.form_of.ensures) in
    let e = c.without.ensures in
    record { told = none-told d e.answer; numbers = none-numbers d e.numbers; bytes = none-bytes d e.bytes }

pub returns-in-Broken : goal.returns-in-Broken
returns-in-Broken c =
    let d = shows _ (F.Broken _) (sym c.in-Broken.is ∙ c.form_of.ensures) in
    let e = c.without-in-Broken.ensures in
    record { told = none-told d e.answer; numbers = none-numbers d e.numbers; bytes = none-bytes d e.bytes }

pub returns-in-Empty : goal.returns-in-Empty
returns-in-Empty c =
    let d = shows _ F.Empty (sym c.in-Empty.is ∙ c.form_of.ensures) in
    let e = c.without-in-Empty.ensures in
    record { told = none-told d e.answer; numbers = none-numbers d e.numbers; bytes = none-bytes d e.bytes }

pub returns-in-Ours : goal.returns-in-Ours
returns-in-Ours c =
    let f = sym c.form_of.ensures ∙ c.in-Ours.is in
    let body = c.body_at.ensures in
    let d = holds-body _ _ f _ body in
    let e = c.read_body.ensures in
    record {
      told = e.told ∙ tells-body _ _ f _ body;
      numbers = e.numbers ∙ ap numbers_of d;
      bytes = e.bytes ∙ ap bytes_of d;
    }
