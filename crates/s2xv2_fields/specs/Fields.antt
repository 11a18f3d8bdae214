-- A record as lines, each field that is on the wire under the name that the Rust has for it, in wire order. What stands
-- behind a field that is absent has no line. Assumes nothing.
-- `line_or`          the line of a value, or that of what is reserved in its place
-- `top_of`           the line of the top bit of byte 6
-- `core_lines`       the lines of the core
-- `core_text`        the text of the core, with the line of the body's length before it
-- `line_if`          the line of a value that may be absent, by the number that it is shown as
-- `number_if`        that of a number
-- `scrambling_of`    the lines of the scrambling index and of what is reserved before it
-- `second_of`        the line of the second id
-- `bonds_of`         the lines of the bonds
-- `parts_text`       the text of the parts between the core and the superframe block
-- `nibble_line`      the line of SFFI's place
-- `block_lines`      the lines of a superframe block
-- `superframe_text`  the text of a block that may be absent
use Rattle.std.specs.Prelude.{ℕ, List, [], ◌∷◌, ◌==◌, slice_index}
use Rattle.wire.specs.Flags.{when, bit}
use Rattle.s2xv2.specs.Table144c.{code_of}
use Rattle.s2xv2.specs.declared.record.S2Xv2SatelliteDeliverySystem.{S2Xv2SatelliteDeliverySystem}
use Rattle.s2xv2.specs.declared.superframe.S2Xv2Superframe.{S2Xv2Superframe}
use Rattle.lines.specs.Out.{joined}
use Rattle.lines.specs.Line.{codes, line_of}
use Rattle.std.specs.Prelude.{None, Option, Some}
use Rattle.std.specs.Prelude.{Bool}

-- ---- the core

-- a value under its name, or what is reserved in its place under its own; `shown` says which number the value is shown as
unfoldable pub line_or : {T : Type 0} → (T → ℕ) → List ℕ → Option T → List ℕ → ℕ → List ℕ
line_or shown name (Some v) other reserved = line_of name (shown v)
line_or shown name None other reserved = line_of other reserved

-- the top bit of byte 6: the selector, or what is reserved in its place
abbrev pub top_of : Option Bool → ℕ → List ℕ
top_of selector reserved = line_or bit (codes "scrambling_sequence_selector") selector (codes "reserved_zero_future_use_1") reserved

-- the fields from delivery_system_id to symbol_rate
unfoldable pub core_lines : S2Xv2SatelliteDeliverySystem → List (List ℕ)
core_lines r =
    line_of (codes "delivery_system_id") r.delivery_system_id
    ∷ line_of (codes "s2xv2_mode") (code_of r.s2xv2_mode)
    ∷ line_of (codes "multiple_input_stream_flag") (bit r.multiple_input_stream_flag)
    ∷ line_of (codes "roll_off") r.roll_off
    ∷ line_of (codes "reserved_zero_future_use_2") r.reserved_zero_future_use_2
    ∷ line_of (codes "ncr_reference") (bit r.ncr_reference)
    ∷ line_of (codes "ncr_version") (bit r.ncr_version)
    ∷ line_of (codes "channel_bond") r.channel_bond
    ∷ line_of (codes "polarization") r.polarization
    ∷ top_of r.scrambling_sequence_selector r.reserved_zero_future_use_1
    ∷ line_of (codes "ts_gs_s2x_mode") r.ts_gs_s2x_mode
    ∷ line_of (codes "receiver_profiles") r.receiver_profiles
    ∷ line_of (codes "satellite_id") r.satellite_id
    ∷ line_of (codes "frequency") r.frequency
    ∷ line_of (codes "symbol_rate") r.symbol_rate
    ∷ []

-- .. after the line of the body's length
unfoldable pub core_text : ℕ → S2Xv2SatelliteDeliverySystem → List ℕ
core_text length r = joined (line_of (codes "s2xv2") length ∷ core_lines r)

-- ---- the parts that may be there

-- the line of a value that may be absent: none then
unfoldable pub line_if : {T : Type 0} → (T → ℕ) → List ℕ → Option T → List ℕ
line_if shown name (Some v) = line_of name (shown v)
line_if shown name None = []

-- that of a number, which is shown as it is
abbrev pub number_if : List ℕ → Option ℕ → List ℕ
number_if name v = line_if (λ n. n) name v

-- what is reserved before the index is there with it
unfoldable pub scrambling_of : Option ℕ → ℕ → List ℕ
scrambling_of (Some index) reserved =
    joined (line_of (codes "reserved_zero_future_use_6") reserved ∷ line_of (codes "scrambling_sequence_index") index ∷ [])
scrambling_of None reserved = []

-- the second id, which is there unless the count is 1
unfoldable pub second_of : ℕ → ℕ → List ℕ
second_of count id = when (count == 1) [] (line_of (codes "secondary_delivery_system_id") id)

-- the count has no line; each id has one
unfoldable pub bonds_of : ℕ → ℕ → ℕ → ℕ → List ℕ
bonds_of count reserved first second =
    when (count == 0) []
    (joined
    (line_of (codes "reserved_zero_future_use_7") reserved
    ∷ line_of (codes "secondary_delivery_system_id") first
    ∷ second_of count second
    ∷ []))

-- the parts between the core and the superframe block
unfoldable pub parts_text : S2Xv2SatelliteDeliverySystem → List ℕ
parts_text r =
    joined
    (number_if (codes "input_stream_identifier") r.input_stream_identifier
    ∷ scrambling_of r.scrambling_sequence_index r.reserved_zero_future_use_6
    ∷ number_if (codes "timeslice_number") r.timeslice_number
    ∷ bonds_of r.num_channel_bonds r.reserved_zero_future_use_7 (slice_index r.secondary_delivery_system_ids 0) (slice_index r.secondary_delivery_system_ids 1)
    ∷ [])

-- ---- the superframe block

-- SFFI, or what is reserved in its place
abbrev pub nibble_line : Option ℕ → ℕ → List ℕ
nibble_line sffi reserved = line_or (λ n. n) (codes "sffi") sffi (codes "reserved_zero_future_use_4") reserved

-- the fields from SOSF_WH to postamble_PLI
unfoldable pub block_lines : S2Xv2Superframe → List (List ℕ)
block_lines f =
    line_of (codes "sosf_wh_sequence_number") f.sosf_wh_sequence_number
    ∷ line_of (codes "sffi_selector") (bit f.sffi_selector)
    ∷ line_of (codes "beam_hopping_time_plan_selector") (bit f.beam_hopping_time_plan_selector)
    ∷ line_of (codes "reserved_zero_future_use_2") f.reserved_zero_future_use_2
    ∷ line_of (codes "reference_scrambling_index") f.reference_scrambling_index
    ∷ nibble_line f.sffi f.reserved_zero_future_use_4
    ∷ line_of (codes "payload_scrambling_index") f.payload_scrambling_index
    ∷ number_if (codes "beamhopping_time_plan_id") f.beamhopping_time_plan_id
    ∷ line_of (codes "superframe_pilots_wh_sequence_number") f.superframe_pilots_wh_sequence_number
    ∷ line_of (codes "postamble_pli") f.postamble_pli
    ∷ []

-- a block that is absent has no line
unfoldable pub superframe_text : Option S2Xv2Superframe → List ℕ
superframe_text (Some f) = joined (block_lines f)
superframe_text None = []
