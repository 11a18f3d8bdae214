-- What the wire carries of a record: each field that is not on the wire is 0. Assumes nothing.
-- `carried_block`       that of a superframe block
-- `carried_superframe`  that of a block that may be absent
-- `carried_id`          that of an id
-- `carried`             that of a record
use Rattle.std.specs.Prelude.{ℕ, List, [], ◌∷◌, get_or, eqb, ltb}
use Rattle.wire.specs.Flags.{when, only}
use Rattle.s2xv2.specs.declared.record.S2Xv2SatelliteDeliverySystem.{S2Xv2SatelliteDeliverySystem}
use Rattle.s2xv2.specs.declared.superframe.S2Xv2Superframe.{S2Xv2Superframe}
use Rattle.std.specs.Prelude.{None, Option, Some, is_some}
use Rattle.std.specs.Option.{unwrap_or}
use Rattle.std.specs.Prelude.{false}

-- reserved_4 has no place where SFFI stands
abbrev pub carried_block : S2Xv2Superframe → S2Xv2Superframe
carried_block f = record {
  sosf_wh_sequence_number = f.sosf_wh_sequence_number;
  sffi_selector = f.sffi_selector;
  beam_hopping_time_plan_selector = f.beam_hopping_time_plan_selector;
  reserved_zero_future_use_2 = f.reserved_zero_future_use_2;
  reference_scrambling_index = f.reference_scrambling_index;
  sffi = f.sffi;
  reserved_zero_future_use_4 = when f.sffi_selector 0 f.reserved_zero_future_use_4;
  payload_scrambling_index = f.payload_scrambling_index;
  beamhopping_time_plan_id = f.beamhopping_time_plan_id;
  superframe_pilots_wh_sequence_number = f.superframe_pilots_wh_sequence_number;
  postamble_pli = f.postamble_pli;
}

abbrev pub carried_superframe : Option S2Xv2Superframe → Option S2Xv2Superframe
carried_superframe (Some f) = Some (carried_block f)
carried_superframe None = None

-- an id beyond the count is not on the wire
abbrev pub carried_id : ℕ → ℕ → List ℕ → ℕ
carried_id i count ids = only (ltb i count) (get_or ids i 0)

-- reserved_1 has no place where the selector stands, reserved_6 and reserved_7 none without the index and the bonds
unfoldable pub carried : S2Xv2SatelliteDeliverySystem → S2Xv2SatelliteDeliverySystem
carried r = record {
  delivery_system_id = r.delivery_system_id;
  s2xv2_mode = r.s2xv2_mode;
  multiple_input_stream_flag = r.multiple_input_stream_flag;
  roll_off = r.roll_off;
  reserved_zero_future_use_2 = r.reserved_zero_future_use_2;
  ncr_reference = r.ncr_reference;
  ncr_version = r.ncr_version;
  channel_bond = r.channel_bond;
  polarization = r.polarization;
  scrambling_sequence_selector = r.scrambling_sequence_selector;
  reserved_zero_future_use_1 = when (is_some r.scrambling_sequence_selector) 0 r.reserved_zero_future_use_1;
  ts_gs_s2x_mode = r.ts_gs_s2x_mode;
  receiver_profiles = r.receiver_profiles;
  satellite_id = r.satellite_id;
  frequency = r.frequency;
  symbol_rate = r.symbol_rate;
  input_stream_identifier = r.input_stream_identifier;
  reserved_zero_future_use_6 = only (unwrap_or r.scrambling_sequence_selector false) r.reserved_zero_future_use_6;
  scrambling_sequence_index = r.scrambling_sequence_index;
  timeslice_number = r.timeslice_number;
  reserved_zero_future_use_7 = only (eqb r.channel_bond 1) r.reserved_zero_future_use_7;
  secondary_delivery_system_ids =
      carried_id 0 r.num_channel_bonds r.secondary_delivery_system_ids
      ∷ carried_id 1 r.num_channel_bonds r.secondary_delivery_system_ids
      ∷ [];
  num_channel_bonds = r.num_channel_bonds;
  superframe = carried_superframe r.superframe;
}
