-- `slot::read::read` meets its contract: the form says which of the cases it is.
-- Assumes nothing.
use mathlib.Core.Path.{sym, ap, ◌∙◌}
use Rattle.form.specs.declared.good.Form.TheVariants as F
use Rattle.slot.specs.Read.{Shown}
use Rattle.slot.proofs.Reading.{shows, body-size, shows-reading}
use Rattle.slot.proofs.read.read.Goals as goal

pub body_at-requires : goal.body_at-requires
body_at-requires c = sym c.form_of.ensures ∙ c.in-Ours.is

pub record_in-requires : goal.record_in-requires
record_in-requires c = body-size _ _ (sym c.form_of.ensures ∙ c.in-Ours.is) _ c.body_at.ensures

pub returns-in-Size : goal.returns-in-Size
returns-in-Size c = ap (λ (x : Shown). x.reading) (shows _ F.Size (sym c.in-Size.is ∙ c.form_of.ensures))

pub returns-in-Broken : goal.returns-in-Broken
returns-in-Broken c = ap (λ (x : Shown). x.reading) (shows _ (F.Broken _) (sym c.in-Broken.is ∙ c.form_of.ensures))

pub returns-in-Empty : goal.returns-in-Empty
returns-in-Empty c = ap (λ (x : Shown). x.reading) (shows _ F.Empty (sym c.in-Empty.is ∙ c.form_of.ensures))

pub returns-in-Ours : goal.returns-in-Ours
returns-in-Ours c = c.record_in.ensures ∙ shows-reading _ _ (sym c.form_of.ensures ∙ c.in-Ours.is) _ c.body_at.ensures
