-- `s2xv2_plain::output::to_plain` meets its contract: the three runs of stores fill all places but the last three, and the law `back` says what they mean.
-- Assumes nothing.
use mathlib.Core.Path.{◌≡◌, ap, ◌∙◌}
use lib.ListN.{length}
use Rattle.wire.specs.Store.{stored_from}
use Rattle.s2xv2.specs.declared.record.S2Xv2SatelliteDeliverySystem.{S2Xv2SatelliteDeliverySystem}
use Rattle.s2xv2_plain.specs.Input.{meant}
use Rattle.s2xv2_plain.specs.Output.{numbers_of, bytes_of}
use Rattle.s2xv2_plain.specs.declared.types.Plain.{Plain}
use Rattle.s2xv2_plain.proofs.Back.{back}
use Rattle.s2xv2_plain.proofs.output.to_plain.Goals as goal

-- numbers that are those of a record mean it
both : (p : Plain) (r : S2Xv2SatelliteDeliverySystem) → p ≡ record { numbers = numbers_of r; bytes = bytes_of r }
    → length r.secondary_delivery_system_ids ≡ 2 → (p ≡ record { numbers = numbers_of r; bytes = bytes_of r }) × (meant p.numbers p.bytes ≡ r)
both p r e h = (e, ap (λ (p : Plain). meant p.numbers p.bytes) e ∙ back r h)

pub returns : goal.returns
unfolding stored_from
returns c =
    let numbers = c.numbers_of.ensures in
    let block = c.put_block.ensures in
    let fields = c.put_fields.ensures in
    let flags = c.put_flags.ensures in
    let p : Plain = record { numbers = c.numbers_of.result; bytes = c.put_block.new.b } in
    let e : p ≡ record { numbers = numbers_of c.args.r; bytes = bytes_of c.args.r } = simp (numbers.numbers, block, fields, flags) in
    let w = both p c.args.r e numbers.two in
    record { plain = w.0; back = w.1 }
