-- The record that plain numbers mean. There is one for any numbers: a flag is clear if it is 0 and set if it is anything else, and what stands behind a
-- flag that says absent is not looked at, which `absent-ignored` proves. The places are those of `numbers_of` and `bytes_of`, which `back` proves.
-- Assumes nothing.
-- `is_set`    of a flag, whether it is set
-- `mode_in`   the mode that a flag and a code mean
-- `block_in`  the superframe block that is meant
-- `meant`     the record that is meant
use Rattle.std.specs.Prelude.{ℕ, List, [], ◌∷◌, Bool, eqb, get_or}
use Rattle.wire.specs.Flags.{when, not}
use Rattle.s2xv2.specs.Table144c.{mode_of}
use Rattle.s2xv2.specs.declared.mode.S2Xv2Mode.{S2Xv2Mode}
use Rattle.s2xv2.specs.declared.mode.S2Xv2Mode.TheVariants as M
use Rattle.s2xv2.specs.declared.record.S2Xv2SatelliteDeliverySystem.{S2Xv2SatelliteDeliverySystem}
use Rattle.s2xv2.specs.declared.superframe.S2Xv2Superframe.{S2Xv2Superframe}
use Rattle.std.specs.Bool.{then_some}

abbrev pub is_set : ℕ → Bool
is_set v = not (eqb v 0)

-- a code that no name has is `Reserved`, with the flag or without
abbrev pub mode_in : ℕ → ℕ → S2Xv2Mode
mode_in reserved code = when (is_set reserved) (M.Reserved code) (mode_of code)

abbrev pub block_in : List ℕ → List ℕ → S2Xv2Superframe
block_in ws bs = record {
  sosf_wh_sequence_number = get_or bs 27 0;
  sffi_selector = is_set (get_or bs 2 0);
  beam_hopping_time_plan_selector = is_set (get_or bs 3 0);
  reserved_zero_future_use_2 = get_or bs 28 0;
  reference_scrambling_index = get_or ws 7 0;
  sffi = then_some (is_set (get_or bs 6 0)) (get_or bs 29 0);
  reserved_zero_future_use_4 = get_or bs 30 0;
  payload_scrambling_index = get_or ws 8 0;
  beamhopping_time_plan_id = then_some (is_set (get_or bs 7 0)) (get_or ws 9 0);
  superframe_pilots_wh_sequence_number = get_or bs 31 0;
  postamble_pli = get_or bs 32 0;
}

abbrev pub meant : List ℕ → List ℕ → S2Xv2SatelliteDeliverySystem
meant ws bs = record {
  delivery_system_id = get_or ws 0 0;
  s2xv2_mode = mode_in (get_or bs 8 0) (get_or bs 20 0);
  multiple_input_stream_flag = is_set (get_or bs 0 0);
  roll_off = get_or bs 21 0;
  reserved_zero_future_use_2 = get_or bs 12 0;
  ncr_reference = is_set (get_or bs 13 0);
  ncr_version = is_set (get_or bs 14 0);
  channel_bond = get_or bs 15 0;
  polarization = get_or bs 19 0;
  scrambling_sequence_selector = then_some (is_set (get_or bs 9 0)) (is_set (get_or bs 1 0));
  reserved_zero_future_use_1 = get_or bs 18 0;
  ts_gs_s2x_mode = get_or bs 16 0;
  receiver_profiles = get_or bs 17 0;
  satellite_id = get_or ws 1 0;
  frequency = get_or ws 3 0;
  symbol_rate = get_or ws 2 0;
  input_stream_identifier = then_some (is_set (get_or bs 4 0)) (get_or bs 24 0);
  reserved_zero_future_use_6 = get_or bs 26 0;
  scrambling_sequence_index = then_some (is_set (get_or bs 5 0)) (get_or ws 4 0);
  timeslice_number = then_some (is_set (get_or bs 10 0)) (get_or bs 25 0);
  reserved_zero_future_use_7 = get_or bs 23 0;
  secondary_delivery_system_ids = get_or ws 5 0 ∷ get_or ws 6 0 ∷ [];
  num_channel_bonds = get_or bs 22 0;
  superframe = then_some (is_set (get_or bs 11 0)) (block_in ws bs);
}
