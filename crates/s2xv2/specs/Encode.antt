-- What a record is written as: a list of parts, each with the widths of EN 300 468, Table 144b, and the values that
-- stand there. From this one list come the bytes and the length. Assumes nothing.
-- `top_bit`                the top bit of byte 6
-- `core_values`            the values of the core
-- `byte_parts`             the part of one byte that may be absent
-- `scrambling_parts`       the part of the scrambling index
-- `id_parts`               the parts of the ids
-- `bond_parts`             the parts of the bond header and the ids
-- `nibble_of`              what stands in SFFI's place
-- `superframe_values`      the values of a superframe block before the plan id
-- `plan_parts`             the part of the plan id
-- `superframe_end_values`  the values of a superframe block's last byte
-- `block_parts`            the parts of a superframe block
-- `block_length`           how many bytes they take
-- `superframe_parts`       the parts of a block that may be absent
-- `stream_of`              the stream id of a record, as parts
-- `scrambling_of`          its scrambling index
-- `timeslice_of`           its timeslice
-- `bond_of`                its bonds
-- `superframe_of`          its superframe block
-- `parts_of`               all its parts
-- `encode`                 the bytes of a record with a tail
-- `encoded_length`         how many bytes these are
use Rattle.std.specs.Prelude.{ℕ, zero, suc, ◌+◌, List, [], ◌∷◌, ◌++◌, Bool, length, get_or, eqb}
use Rattle.wire.specs.Count.{less_one}
use Rattle.wire.specs.Flags.{when, bit}
use Rattle.wire.specs.Parts.{Part, ◌⦂◌, bytes_of, sizes}
use Rattle.s2xv2.specs.Table144b as T
use Rattle.s2xv2.specs.Table144c.{code_of}
use Rattle.s2xv2.specs.declared.record.S2Xv2SatelliteDeliverySystem.{S2Xv2SatelliteDeliverySystem}
use Rattle.s2xv2.specs.declared.superframe.S2Xv2Superframe.{S2Xv2Superframe}
use Rattle.std.specs.Prelude.{None, Option, Some}
use Rattle.std.specs.Option.{unwrap_or}
use Rattle.std.specs.Prelude.{false}

-- the top bit of byte 6: the selector, or what is reserved in its place
abbrev pub top_bit : Option Bool → ℕ → ℕ
top_bit (Some b) reserved = bit b
top_bit None reserved = reserved

abbrev pub core_values : S2Xv2SatelliteDeliverySystem → List ℕ
core_values r =
    r.delivery_system_id
    ∷ code_of r.s2xv2_mode
    ∷ bit r.multiple_input_stream_flag
    ∷ r.roll_off
    ∷ r.reserved_zero_future_use_2
    ∷ bit r.ncr_reference
    ∷ bit r.ncr_version
    ∷ r.channel_bond
    ∷ r.polarization
    ∷ top_bit r.scrambling_sequence_selector r.reserved_zero_future_use_1
    ∷ r.ts_gs_s2x_mode
    ∷ r.receiver_profiles
    ∷ r.satellite_id
    ∷ r.frequency
    ∷ r.symbol_rate
    ∷ []

-- a part of one byte: the stream id, and the timeslice
unfoldable pub byte_parts : List ℕ → Option ℕ → List Part
byte_parts ws (Some v) = ws ⦂ (v ∷ []) ∷ []
byte_parts ws None = []

unfoldable pub scrambling_parts : Bool → ℕ → Option ℕ → List Part
scrambling_parts there reserved index = when there (T.scrambling ⦂ (reserved ∷ unwrap_or index 0 ∷ []) ∷ []) []

-- n ids, from the i-th on
abbrev pub id_parts : ℕ → ℕ → List ℕ → List Part
id_parts i zero ids = []
id_parts i (suc n) ids = T.bond_id ⦂ (get_or ids i 0 ∷ []) ∷ id_parts (suc i) n ids

unfoldable pub bond_parts : Bool → ℕ → ℕ → List ℕ → List Part
bond_parts there reserved count ids = when there (T.bond_header ⦂ (reserved ∷ less_one count ∷ []) ∷ id_parts 0 count ids) []

-- SFFI, or what is reserved in its place
abbrev pub nibble_of : Bool → Option ℕ → ℕ → ℕ
nibble_of selector sffi reserved = when selector (unwrap_or sffi 0) reserved

abbrev pub superframe_values : S2Xv2Superframe → List ℕ
superframe_values f =
    f.sosf_wh_sequence_number
    ∷ bit f.sffi_selector
    ∷ bit f.beam_hopping_time_plan_selector
    ∷ f.reserved_zero_future_use_2
    ∷ f.reference_scrambling_index
    ∷ nibble_of f.sffi_selector f.sffi f.reserved_zero_future_use_4
    ∷ f.payload_scrambling_index
    ∷ []

abbrev pub plan_parts : Bool → Option ℕ → List Part
plan_parts there plan = when there (T.plan ⦂ (unwrap_or plan 0 ∷ []) ∷ []) []

abbrev pub superframe_end_values : S2Xv2Superframe → List ℕ
superframe_end_values f = f.superframe_pilots_wh_sequence_number ∷ f.postamble_pli ∷ []

-- the block's first fields, the plan id if its selector is set, and the last byte
abbrev pub block_parts : S2Xv2Superframe → List Part
block_parts f =
    T.superframe ⦂ superframe_values f
    ∷ (plan_parts f.beam_hopping_time_plan_selector f.beamhopping_time_plan_id ++ (T.last_byte ⦂ superframe_end_values f ∷ []))

abbrev pub block_length : S2Xv2Superframe → ℕ
block_length f = sizes (block_parts f)

unfoldable pub superframe_parts : Option S2Xv2Superframe → List Part
superframe_parts (Some f) = block_parts f
superframe_parts None = []

-- ---- the parts of a record after its core

abbrev pub stream_of : S2Xv2SatelliteDeliverySystem → List Part
stream_of r = byte_parts T.stream_id r.input_stream_identifier

abbrev pub scrambling_of : S2Xv2SatelliteDeliverySystem → List Part
scrambling_of r = scrambling_parts (unwrap_or r.scrambling_sequence_selector false) r.reserved_zero_future_use_6 r.scrambling_sequence_index

abbrev pub timeslice_of : S2Xv2SatelliteDeliverySystem → List Part
timeslice_of r = byte_parts T.timeslice r.timeslice_number

abbrev pub bond_of : S2Xv2SatelliteDeliverySystem → List Part
bond_of r = bond_parts (eqb r.channel_bond 1) r.reserved_zero_future_use_7 r.num_channel_bonds r.secondary_delivery_system_ids

abbrev pub superframe_of : S2Xv2SatelliteDeliverySystem → List Part
superframe_of r = superframe_parts r.superframe

-- all parts, in wire order
unfoldable pub parts_of : S2Xv2SatelliteDeliverySystem → List Part
parts_of r = T.core ⦂ core_values r ∷ (stream_of r ++ (scrambling_of r ++ (timeslice_of r ++ (bond_of r ++ superframe_of r))))

-- THE BYTES of a record with a tail, and how many
unfoldable pub encode : S2Xv2SatelliteDeliverySystem → List ℕ → List ℕ
encode r tail = bytes_of (parts_of r) tail

unfoldable pub encoded_length : S2Xv2SatelliteDeliverySystem → List ℕ → ℕ
encoded_length r tail = sizes (parts_of r) + length tail
