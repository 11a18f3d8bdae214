-- List B (docs/ANSWERS.md): a value that the wire cannot carry. Only what is on the wire is judged. Assumes nothing.
-- `core_b`        tests 1 to 9, of the core
-- `scrambling_b`  tests 10 to 12, of the scrambling index
-- `bond_b`        tests 13 and 14, of the bonds
-- `superframe_b`  tests 15 to 22, of a superframe block that may be absent
-- `list_b`        all tests in their order
-- `unwritable`    the place of the first that holds, or 0 if none does
use Rattle.std.specs.Prelude.{ℕ, List, [], ◌∷◌, ◌++◌, Bool, eqb}
use Rattle.wire.specs.Widths.{wide}
use Rattle.wire.specs.Flags.{and, not}
use Rattle.s2xv2.specs.Table144c.{code_of}
use Rattle.wire.specs.Count.{less_one}
use Rattle.s2xv2.specs.Encode.{nibble_of}
use Rattle.answers.specs.Tests.{first_of}
use Rattle.s2xv2.specs.ListA.{in_superframe}
use Rattle.s2xv2.specs.declared.record.S2Xv2SatelliteDeliverySystem.{S2Xv2SatelliteDeliverySystem}
use Rattle.std.specs.Prelude.{Option, is_some}
use Rattle.std.specs.Option.{unwrap_or}
use Rattle.std.specs.Prelude.{false}
use Rattle.s2xv2.specs.declared.superframe.S2Xv2Superframe.{S2Xv2Superframe}

-- the core
abbrev pub core_b : S2Xv2SatelliteDeliverySystem → List Bool
core_b r =
    wide 4 (code_of r.s2xv2_mode)  -- 1: mode
    ∷ wide 3 r.roll_off  -- 2: roll_off
    ∷ wide 2 r.reserved_zero_future_use_2  -- 3: reserved_2
    ∷ wide 2 r.channel_bond  -- 4: channel_bond
    ∷ wide 2 r.polarization  -- 5: polarization
    ∷ and (not (is_some r.scrambling_sequence_selector)) (wide 1 r.reserved_zero_future_use_1)  -- 6: reserved_1, where no selector stands
    ∷ wide 2 r.ts_gs_s2x_mode  -- 7: ts_gs_s2x_mode
    ∷ wide 5 r.receiver_profiles  -- 8: receiver_profiles
    ∷ wide 24 r.satellite_id  -- 9: satellite_id
    ∷ []

-- the scrambling index, where its selector is set
abbrev pub scrambling_b : S2Xv2SatelliteDeliverySystem → List Bool
scrambling_b r =
    and (unwrap_or r.scrambling_sequence_selector false) (not (is_some r.scrambling_sequence_index))  -- 10: index absent with selector set
    ∷ and (unwrap_or r.scrambling_sequence_selector false) (wide 18 (unwrap_or r.scrambling_sequence_index 0))  -- 11: index
    ∷ and (unwrap_or r.scrambling_sequence_selector false) (wide 6 r.reserved_zero_future_use_6)  -- 12: reserved_6
    ∷ []

-- the bonds, under channel_bond 1
abbrev pub bond_b : S2Xv2SatelliteDeliverySystem → List Bool
bond_b r =
    and (eqb r.channel_bond 1) (wide 1 (less_one r.num_channel_bonds))  -- 13: bond count other than 1 or 2 under channel_bond 1
    ∷ and (eqb r.channel_bond 1) (wide 7 r.reserved_zero_future_use_7)  -- 14: reserved_7
    ∷ []

-- the superframe block
abbrev pub superframe_b : Option S2Xv2Superframe → List Bool
superframe_b o =
    in_superframe (λ f. wide 20 f.reference_scrambling_index) o  -- 15: reference index
    ∷ in_superframe (λ f. wide 20 f.payload_scrambling_index) o  -- 16: payload index
    ∷ in_superframe (λ f. wide 2 f.reserved_zero_future_use_2) o  -- 17: superframe reserved_2
    ∷ in_superframe (λ f. and f.sffi_selector (not (is_some f.sffi))) o  -- 18: SFFI absent with selector set
    ∷ in_superframe (λ f. wide 4 (nibble_of f.sffi_selector f.sffi f.reserved_zero_future_use_4)) o  -- 19: SFFI or its reserved nibble
    ∷ in_superframe (λ f. and f.beam_hopping_time_plan_selector (not (is_some f.beamhopping_time_plan_id))) o  -- 20: plan id absent with selector set
    ∷ in_superframe (λ f. wide 5 f.superframe_pilots_wh_sequence_number) o  -- 21: pilots
    ∷ in_superframe (λ f. wide 3 f.postamble_pli) o  -- 22: postamble_pli
    ∷ []

abbrev pub list_b : S2Xv2SatelliteDeliverySystem → List Bool
list_b r = core_b r ++ (scrambling_b r ++ (bond_b r ++ superframe_b r.superframe))

unfoldable pub unwritable : S2Xv2SatelliteDeliverySystem → ℕ
unwritable r = first_of (list_b r)
