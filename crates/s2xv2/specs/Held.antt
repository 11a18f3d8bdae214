-- What the types of a record's fields say of it, for each field whose type is as wide as its place on the wire. Every
-- record that a program can hold is held: `s2xv2_typed::is_held` gives it for any record. Assumes nothing.
-- `HeldBlock`       that of a superframe block
-- `HeldSuperframe`  that of a block that may be absent
-- `Held`            that of a record
use Rattle.std.specs.Prelude.{◌^◌, ◌<◌, get_or}
use Rattle.s2xv2.specs.declared.record.S2Xv2SatelliteDeliverySystem.{S2Xv2SatelliteDeliverySystem}
use Rattle.s2xv2.specs.declared.superframe.S2Xv2Superframe.{S2Xv2Superframe}
use Rattle.std.specs.Prelude.{None, Option, Some}
use Rattle.std.specs.Option.{unwrap_or}

pub record HeldBlock (f : S2Xv2Superframe) : Type 0 where
  pub sosf : f.sosf_wh_sequence_number < 2 ^ 8
  pub plan : unwrap_or f.beamhopping_time_plan_id 0 < 2 ^ 32

abbrev pub HeldSuperframe : Option S2Xv2Superframe → Type 0
HeldSuperframe (Some f) = HeldBlock f
HeldSuperframe None = Unit

pub record Held (r : S2Xv2SatelliteDeliverySystem) : Type 0 where
  pub id : r.delivery_system_id < 2 ^ 32
  pub frequency : r.frequency < 2 ^ 32
  pub rate : r.symbol_rate < 2 ^ 32
  pub stream : unwrap_or r.input_stream_identifier 0 < 2 ^ 8
  pub timeslice : unwrap_or r.timeslice_number 0 < 2 ^ 8
  pub first : get_or r.secondary_delivery_system_ids 0 0 < 2 ^ 32
  pub second : get_or r.secondary_delivery_system_ids 1 0 < 2 ^ 32
  pub block : HeldSuperframe r.superframe
