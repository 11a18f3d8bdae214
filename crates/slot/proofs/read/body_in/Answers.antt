-- `slot::read::body_in` meets its contract: the form says where the body is.
-- Assumes nothing.
use mathlib.Core.Path.{sym, ◌∙◌}
use Rattle.form.specs.declared.good.Form.TheVariants as F
use Rattle.slot.proofs.Reading.{its-body, no-body}
use Rattle.slot.proofs.read.body_in.Goals as goal

pub body_at-requires : goal.body_at-requires
body_at-requires c = sym c.form_of.ensures ∙ c.in-Ours.is

pub returns-in-Size : goal.returns-in-Size
returns-in-Size c = no-body _ _ c.form_of.ensures c.in-Size.is

pub returns-in-Ours : goal.returns-in-Ours
returns-in-Ours c =
    c.body_at.ensures ∙ its-body _ (F.Ours _) (sym c.in-Ours.is ∙ c.form_of.ensures)
