-- What each part of a body stores into the two arrays of a lent record, in the order of the stores. The places are those of `numbers_of` and `bytes_of`, which
-- the contract of `read_into` proves. Assumes nothing.
-- `reach`          where a part ends, or none where the body does not reach that
-- `core_numbers`   the numbers of the core
-- `field_bytes`    the bytes of the core's fields that mean the same in every mode
-- `asked_bytes`    those that say what is there, and the top bit of byte 6
-- `bond_numbers`   the numbers of the bonds
-- `bond_bytes`     their bytes
-- `start_numbers`  the numbers of a superframe block that is there, without the plan id
-- `start_bytes`    its bytes, without those of its last byte
-- `end_bytes`      those of its last byte
-- `block_numbers`  the numbers of a superframe block, zeros where there is none
-- `block_bytes`    its bytes
-- `block_at`       the superframe block at a byte, if it is there
-- `named`          the parts that the stored bytes of a core say are there
-- `rest_numbers`   the numbers of all parts behind the core
-- `rest_bytes`     their bytes
use Rattle.std.specs.Prelude.{ℕ, ◌/◌, ◌%◌, Bool, List, set, nat_lt, slice_index, slice_set, Option, Some, None, is_some}
use Rattle.wire.specs.Bits.{bits}
use Rattle.wire.specs.Flags.{bit, is_one, when}
use Rattle.wire.specs.Widths.{give}
use Rattle.s2xv2.specs.Table144b as T
use Rattle.s2xv2.specs.Table144c.{mode_of, has_selector, has_timeslice, has_superframe}
use Rattle.s2xv2.specs.Read.{Present, stream_end, scrambling_end, timeslice_end, bond_end, has_second, has_plan}
use Rattle.s2xv2.specs.Read.{stream_id_at, reserved6_at, index_at, timeslice_at, reserved7_at, count_if, first_id_at, second_id_at, superframe_at}
use Rattle.s2xv2.specs.declared.superframe.S2Xv2Superframe.{S2Xv2Superframe}
use Rattle.s2xv2_plain.specs.Output.{is_reserved, block_of}
use Rattle.std.specs.Option.{unwrap_or}
use Rattle.std.specs.Bool.{then_some}

abbrev pub reach : ℕ → ℕ → Option ℕ
reach have end = when (nat_lt have end) None (Some end)

-- ---- the core

abbrev pub core_numbers : List ℕ → List ℕ → List ℕ
core_numbers ws s = slice_set (slice_set (slice_set (slice_set ws 0 (bits s 0 0 32)) 1 (bits s 7 0 24)) 3 (bits s 10 0 32)) 2 (bits s 14 0 32)

-- of bytes 4, 5 and 6
abbrev pub field_bytes : List ℕ → ℕ → ℕ → ℕ → List ℕ
field_bytes bs v4 v5 v6 =
    set (set (set (set (set (set (set (set (set bs
    12 (v5 / 64 % 4))
    13 (v5 / 32 % 2))
    14 (v5 / 16 % 2))
    15 (v5 / 4 % 4))
    16 (v6 / 32 % 4))
    17 (v6 % 32))
    19 (v5 % 4))
    20 (v4 / 16 % 16))
    21 (v4 % 8)

-- of the mode's code and bytes 4 and 6
abbrev pub asked_bytes : List ℕ → ℕ → ℕ → ℕ → List ℕ
asked_bytes bs m v4 v6 =
    set (set (set (set (set (set (set (set (set bs
    0 (v4 / 8 % 2))
    4 (v4 / 8 % 2))
    8 (is_reserved (mode_of m)))
    10 (bit (has_timeslice (mode_of m))))
    11 (bit (has_superframe (mode_of m))))
    9 (bit (has_selector (mode_of m))))
    18 (when (has_selector (mode_of m)) 0 (v6 / 128 % 2)))
    1 (when (has_selector (mode_of m)) (v6 / 128 % 2) 0))
    5 (when (has_selector (mode_of m)) (v6 / 128 % 2) 0)

-- ---- the bonds

abbrev pub bond_numbers : List ℕ → List ℕ → ℕ → Bool → List ℕ
bond_numbers ws s p there = slice_set (slice_set ws 5 (first_id_at s p there)) 6 (second_id_at s p there (has_second s p))

abbrev pub bond_bytes : List ℕ → List ℕ → ℕ → Bool → List ℕ
bond_bytes bs s p there = slice_set (slice_set bs 23 (reserved7_at s p there)) 22 (count_if there (has_second s p))

-- ---- the superframe block

-- of its first fields
abbrev pub start_numbers : List ℕ → List ℕ → List ℕ
start_numbers ws vs = give T.superframe (λ sosf selector hopping reserved reference nibble payload. set (slice_set ws 7 reference) 8 payload) vs

abbrev pub start_bytes : List ℕ → List ℕ → List ℕ
start_bytes bs vs =
    give T.superframe (λ sosf selector hopping reserved reference nibble payload.
    set (set (set (set (set (set (set (set bs
    27 sosf)
    28 reserved)
    2 selector)
    3 hopping)
    6 selector)
    7 hopping)
    29 (when (is_one selector) nibble 0))
    30 (when (is_one selector) 0 nibble)) vs

-- of its last byte, with the bytes that hold nothing
abbrev pub end_bytes : List ℕ → ℕ → List ℕ
end_bytes bs v = slice_set (slice_set (slice_set (slice_set (slice_set bs 31 (v / 8 % 32)) 32 (v % 8)) 33 0) 34 0) 35 0

abbrev pub block_numbers : List ℕ → Option S2Xv2Superframe → List ℕ
block_numbers ws f =
    set (set (set ws
    7 (block_of f).reference_scrambling_index)
    8 (block_of f).payload_scrambling_index)
    9 (unwrap_or (block_of f).beamhopping_time_plan_id 0)

abbrev pub block_bytes : List ℕ → Option S2Xv2Superframe → List ℕ
block_bytes bs f =
    set (set (set (set (set (set (set (set (set (set (set (set (set bs
    27 (block_of f).sosf_wh_sequence_number)
    28 (block_of f).reserved_zero_future_use_2)
    2 (bit (block_of f).sffi_selector))
    3 (bit (block_of f).beam_hopping_time_plan_selector))
    6 (bit (is_some (block_of f).sffi)))
    7 (bit (is_some (block_of f).beamhopping_time_plan_id)))
    29 (unwrap_or (block_of f).sffi 0))
    30 (block_of f).reserved_zero_future_use_4)
    31 (block_of f).superframe_pilots_wh_sequence_number)
    32 (block_of f).postamble_pli)
    33 0)
    34 0)
    35 0

abbrev pub block_at : List ℕ → ℕ → Bool → Option S2Xv2Superframe
block_at s p there = then_some there (superframe_at s p (has_plan s p))

-- ---- all parts behind the core

abbrev pub named : List ℕ → Present
named bs = record {
  stream = is_one (slice_index bs 4);
  scrambling = is_one (slice_index bs 5);
  timeslice = is_one (slice_index bs 10);
  bond = is_one (slice_index bs 15);
  superframe = is_one (slice_index bs 11);
}

abbrev pub rest_numbers : List ℕ → List ℕ → Present → List ℕ
rest_numbers ws s k =
    block_numbers (bond_numbers (set ws
    4 (unwrap_or (index_at s (stream_end k) k.scrambling) 0)) s (timeslice_end k) k.bond)
    (block_at s (bond_end s k) k.superframe)

abbrev pub rest_bytes : List ℕ → List ℕ → Present → List ℕ
rest_bytes bs s k =
    block_bytes (bond_bytes (set (set (set bs
    24 (unwrap_or (stream_id_at s 18 k.stream) 0))
    26 (reserved6_at s (stream_end k) k.scrambling))
    25 (unwrap_or (timeslice_at s (scrambling_end k) k.timeslice) 0)) s (timeslice_end k) k.bond)
    (block_at s (bond_end s k) k.superframe)
