-- `slot::read::tail_part` meets its contract: the form says where the body is, and the part of the body's tail is the slot's.
-- Assumes nothing.
use mathlib.Core.Path.{sym, ap, ◌∙◌}
use Rattle.slot.specs.Part.{told_part, slot_part}
use Rattle.slot.proofs.Reading.{no-tail, body-size, tells-body}
use Rattle.slot.proofs.read.tail_part.Goals as goal

pub body_at-requires : goal.body_at-requires
body_at-requires c = sym c.form_of.ensures ∙ c.in-Ours.is

pub placed_part-requires : goal.placed_part-requires
placed_part-requires c =
    body-size _ _ (sym c.form_of.ensures ∙ c.in-Ours.is) _ c.body_at.ensures

pub returns-in-Size : goal.returns-in-Size
unfolding slot_part
returns-in-Size c = c.no_part.ensures ∙ no-tail _ _ c.form_of.ensures c.in-Size.is

pub returns-in-Ours : goal.returns-in-Ours
unfolding slot_part
returns-in-Ours c =
    c.placed_part.ensures ∙ ap told_part (tells-body _ _ (sym c.form_of.ensures ∙ c.in-Ours.is) _ c.body_at.ensures)
