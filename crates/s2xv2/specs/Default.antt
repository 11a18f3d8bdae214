-- The `Default`s of the crate. Assumes nothing.
-- `default_superframe`  that of a superframe block
-- `default_record`      that of a record, which a refused read shows
use Rattle.std.specs.Prelude.{[], ◌∷◌, false}
use Rattle.s2xv2.specs.declared.record.S2Xv2SatelliteDeliverySystem.{S2Xv2SatelliteDeliverySystem}
use Rattle.s2xv2.specs.declared.superframe.S2Xv2Superframe.{S2Xv2Superframe}
use Rattle.s2xv2.specs.declared.mode.S2Xv2Mode.TheVariants as M
use Rattle.std.specs.Prelude.{None}

unfoldable pub default_superframe : S2Xv2Superframe
default_superframe = record {
  sosf_wh_sequence_number = 0;
  sffi_selector = false;
  beam_hopping_time_plan_selector = false;
  reserved_zero_future_use_2 = 0;
  reference_scrambling_index = 0;
  sffi = None;
  reserved_zero_future_use_4 = 0;
  payload_scrambling_index = 0;
  beamhopping_time_plan_id = None;
  superframe_pilots_wh_sequence_number = 0;
  postamble_pli = 0;
}

unfoldable pub default_record : S2Xv2SatelliteDeliverySystem
default_record = record {
  delivery_system_id = 0;
  s2xv2_mode = M.Reserved0;
  multiple_input_stream_flag = false;
  roll_off = 0;
  reserved_zero_future_use_2 = 0;
  ncr_reference = false;
  ncr_version = false;
  channel_bond = 0;
  polarization = 0;
  scrambling_sequence_selector = None;
  reserved_zero_future_use_1 = 0;
  ts_gs_s2x_mode = 0;
  receiver_profiles = 0;
  satellite_id = 0;
  frequency = 0;
  symbol_rate = 0;
  input_stream_identifier = None;
  reserved_zero_future_use_6 = 0;
  scrambling_sequence_index = None;
  timeslice_number = None;
  reserved_zero_future_use_7 = 0;
  secondary_delivery_system_ids = 0 ∷ 0 ∷ [];
  num_channel_bonds = 0;
  superframe = None;
}
