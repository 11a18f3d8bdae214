-- `capi::slots::s2xv2_slot_reserved_tail` meets its contract: the part that reading the slot tells, which has the bytes of the tail.
-- Assumes nothing.
use mathlib.Core.Path.{ap, ◌∙◌}
use Rattle.answers.specs.declared.plain.PlainPart.{PlainPart}
use Rattle.capi.specs.Part.{part_in}
use Rattle.capi.proofs.Part.{cut-slot}
use Rattle.capi.proofs.slots.s2xv2_slot_reserved_tail.Goals as goal

pub returns : goal.returns
returns c =
    let s = c.args.s.now in
    let e = c.tail_part.ensures in
    (e, ap (λ (p : PlainPart). part_in p s) e ∙ cut-slot s)
