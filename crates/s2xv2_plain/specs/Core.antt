-- The core of a record. Assumes nothing.
-- `core_of`  a record that has the core of another, and of all else what `default_record` has
use Rattle.s2xv2.specs.Default.{default_record}
use Rattle.s2xv2.specs.declared.record.S2Xv2SatelliteDeliverySystem.{S2Xv2SatelliteDeliverySystem}

abbrev pub core_of : S2Xv2SatelliteDeliverySystem → S2Xv2SatelliteDeliverySystem
core_of r = record {
  delivery_system_id = r.delivery_system_id;
  s2xv2_mode = r.s2xv2_mode;
  multiple_input_stream_flag = r.multiple_input_stream_flag;
  roll_off = r.roll_off;
  reserved_zero_future_use_2 = r.reserved_zero_future_use_2;
  ncr_reference = r.ncr_reference;
  ncr_version = r.ncr_version;
  channel_bond = r.channel_bond;
  polarization = r.polarization;
  scrambling_sequence_selector = r.scrambling_sequence_selector;
  reserved_zero_future_use_1 = r.reserved_zero_future_use_1;
  ts_gs_s2x_mode = r.ts_gs_s2x_mode;
  receiver_profiles = r.receiver_profiles;
  satellite_id = r.satellite_id;
  frequency = r.frequency;
  symbol_rate = r.symbol_rate;
  input_stream_identifier = default_record.input_stream_identifier;
  reserved_zero_future_use_6 = default_record.reserved_zero_future_use_6;
  scrambling_sequence_index = default_record.scrambling_sequence_index;
  timeslice_number = default_record.timeslice_number;
  reserved_zero_future_use_7 = default_record.reserved_zero_future_use_7;
  secondary_delivery_system_ids = default_record.secondary_delivery_system_ids;
  num_channel_bonds = default_record.num_channel_bonds;
  superframe = default_record.superframe;
}
