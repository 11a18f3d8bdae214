-- A record as plain numbers. Assumes nothing.
-- `is_reserved`  of a mode, 1 for `Reserved` and 0 for any other
-- `block_of`     a superframe block, the default one where there is none
-- `numbers_of`   the ten numbers of a record
-- `bytes_of`     its thirty-six bytes
use Rattle.std.specs.Prelude.{ℕ, List, [], ◌∷◌, get_or}
use Rattle.wire.specs.Flags.{bit}
use Rattle.s2xv2.specs.Table144c.{code_of}
use Rattle.s2xv2.specs.Default.{default_superframe}
use Rattle.s2xv2.specs.declared.mode.S2Xv2Mode.{S2Xv2Mode}
use Rattle.s2xv2.specs.declared.mode.S2Xv2Mode.TheVariants as M
use Rattle.s2xv2.specs.declared.record.S2Xv2SatelliteDeliverySystem.{S2Xv2SatelliteDeliverySystem}
use Rattle.s2xv2.specs.declared.superframe.S2Xv2Superframe.{S2Xv2Superframe}
use Rattle.std.specs.Prelude.{None, Option, Some, is_some}
use Rattle.std.specs.Option.{unwrap_or}
use Rattle.std.specs.Prelude.{false}

abbrev pub is_reserved : S2Xv2Mode → ℕ
is_reserved M.Reserved0 = 0
is_reserved M.S2X = 0
is_reserved M.S2XTimeSlicing = 0
is_reserved M.Reserved3 = 0
is_reserved M.S2XSuperframe = 0
is_reserved M.S2XSuperframeTimeSlicing = 0
is_reserved (M.Reserved v) = 1

abbrev pub block_of : Option S2Xv2Superframe → S2Xv2Superframe
block_of (Some f) = f
block_of None = default_superframe

abbrev pub numbers_of : S2Xv2SatelliteDeliverySystem → List ℕ
numbers_of r =
    r.delivery_system_id
    ∷ r.satellite_id
    ∷ r.symbol_rate
    ∷ r.frequency
    ∷ unwrap_or r.scrambling_sequence_index 0
    ∷ get_or r.secondary_delivery_system_ids 0 0
    ∷ get_or r.secondary_delivery_system_ids 1 0
    ∷ (block_of r.superframe).reference_scrambling_index
    ∷ (block_of r.superframe).payload_scrambling_index
    ∷ unwrap_or (block_of r.superframe).beamhopping_time_plan_id 0
    ∷ []

abbrev pub bytes_of : S2Xv2SatelliteDeliverySystem → List ℕ
bytes_of r =
    -- what is said to be there
    bit r.multiple_input_stream_flag
    ∷ bit (unwrap_or r.scrambling_sequence_selector false)
    ∷ bit (block_of r.superframe).sffi_selector
    ∷ bit (block_of r.superframe).beam_hopping_time_plan_selector
    -- what of that is there
    ∷ bit (is_some r.input_stream_identifier)
    ∷ bit (is_some r.scrambling_sequence_index)
    ∷ bit (is_some (block_of r.superframe).sffi)
    ∷ bit (is_some (block_of r.superframe).beamhopping_time_plan_id)
    -- what the mode asks for
    ∷ is_reserved r.s2xv2_mode
    ∷ bit (is_some r.scrambling_sequence_selector)
    ∷ bit (is_some r.timeslice_number)
    ∷ bit (is_some r.superframe)
    -- the fields of the core
    ∷ r.reserved_zero_future_use_2
    ∷ bit r.ncr_reference
    ∷ bit r.ncr_version
    ∷ r.channel_bond
    ∷ r.ts_gs_s2x_mode
    ∷ r.receiver_profiles
    ∷ r.reserved_zero_future_use_1
    ∷ r.polarization
    ∷ code_of r.s2xv2_mode
    ∷ r.roll_off
    -- those of the parts behind it
    ∷ r.num_channel_bonds
    ∷ r.reserved_zero_future_use_7
    ∷ unwrap_or r.input_stream_identifier 0
    ∷ unwrap_or r.timeslice_number 0
    ∷ r.reserved_zero_future_use_6
    -- those of the superframe block
    ∷ (block_of r.superframe).sosf_wh_sequence_number
    ∷ (block_of r.superframe).reserved_zero_future_use_2
    ∷ unwrap_or (block_of r.superframe).sffi 0
    ∷ (block_of r.superframe).reserved_zero_future_use_4
    ∷ (block_of r.superframe).superframe_pilots_wh_sequence_number
    ∷ (block_of r.superframe).postamble_pli
    -- and nothing
    ∷ 0
    ∷ 0
    ∷ 0
    ∷ []
