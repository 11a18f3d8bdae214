-- EN 300 468, Table 144b: the widths of the fields of each part, in wire order. Reading cuts along these lists and
-- writing packs along them; nothing else says where a field stands. Assumes nothing.
-- `core`         what every body starts with
-- `stream_id`    the stream id
-- `scrambling`   the scrambling index, and what is reserved before it
-- `timeslice`    the timeslice
-- `bond_header`  the count of the bonds less one, and what is reserved before it
-- `bond_id`      the id of a bond
-- `superframe`   the superframe block before the plan id
-- `plan`         the plan id
-- `last_byte`    the last byte of the superframe block
use Rattle.std.specs.Prelude.{ℕ, List, [], ◌∷◌}

abbrev pub core : List ℕ
core =
    32  -- delivery_system_id
    ∷ 4  -- S2Xv2_mode
    ∷ 1  -- multiple_input_stream_flag
    ∷ 3  -- roll_off
    ∷ 2  -- reserved_zero_future_use
    ∷ 1  -- NCR_reference
    ∷ 1  -- NCR_version
    ∷ 2  -- channel_bond
    ∷ 2  -- polarization
    ∷ 1  -- in modes 1 and 2 scrambling_sequence_selector, else reserved_zero_future_use
    ∷ 2  -- TS_GS_S2X_mode
    ∷ 5  -- receiver_profiles
    ∷ 24  -- satellite_id
    ∷ 32  -- frequency
    ∷ 32  -- symbol_rate
    ∷ []

-- if multiple_input_stream_flag is set
abbrev pub stream_id : List ℕ
stream_id =
    8  -- input_stream_identifier
    ∷ []

-- in modes 1 and 2, if scrambling_sequence_selector is set
abbrev pub scrambling : List ℕ
scrambling =
    6  -- reserved_zero_future_use
    ∷ 18  -- scrambling_sequence_index
    ∷ []

-- in modes 2 and 5
abbrev pub timeslice : List ℕ
timeslice =
    8  -- timeslice_number
    ∷ []

-- if channel_bond is 1
abbrev pub bond_header : List ℕ
bond_header =
    7  -- reserved_zero_future_use
    ∷ 1  -- num_channel_bonds_minus_one
    ∷ []

-- .. and for each of the channel bonds
abbrev pub bond_id : List ℕ
bond_id =
    32  -- secondary_delivery_system_id
    ∷ []

-- in modes 4 and 5
abbrev pub superframe : List ℕ
superframe =
    8  -- SOSF_WH_sequence_number
    ∷ 1  -- SFFI_selector
    ∷ 1  -- beam_hopping_time_plan_selector
    ∷ 2  -- reserved_zero_future_use
    ∷ 20  -- reference_scrambling_index
    ∷ 4  -- if SFFI_selector is set SFFI, else reserved_zero_future_use
    ∷ 20  -- payload_scrambling_index
    ∷ []

-- .. if beam_hopping_time_plan_selector is set
abbrev pub plan : List ℕ
plan =
    32  -- beamhopping_time_plan_id
    ∷ []

-- .. and in either case
abbrev pub last_byte : List ℕ
last_byte =
    5  -- superframe_pilots_WH_sequence_number
    ∷ 3  -- postamble_PLI
    ∷ []
