-- List A (docs/ANSWERS.md): a record that contradicts itself. Assumes nothing.
-- `misnamed`       the test of a mode
-- `in_superframe`  a test of a superframe block, made one of a block that may be absent
-- `parts_a`        tests 1 to 7, of mode, flags and parts
-- `superframe_a`   tests 8 and 9, of a superframe block that may be absent
-- `list_a`         all tests in their order
-- `inconsistency`  the place of the first that holds, or 0 for a consistent record
use Rattle.std.specs.Prelude.{ℕ, List, [], ◌∷◌, ◌++◌, Bool, false, eqb, ltb}
use Rattle.answers.specs.Tests.{first_of}
use Rattle.wire.specs.Flags.{and, not, differ}
use Rattle.s2xv2.specs.Table144c.{has_selector, has_timeslice, has_superframe}
use Rattle.s2xv2.specs.declared.record.S2Xv2SatelliteDeliverySystem.{S2Xv2SatelliteDeliverySystem}
use Rattle.s2xv2.specs.declared.superframe.S2Xv2Superframe.{S2Xv2Superframe}
use Rattle.s2xv2.specs.declared.mode.S2Xv2Mode.{S2Xv2Mode}
use Rattle.s2xv2.specs.declared.mode.S2Xv2Mode.TheVariants as M
use Rattle.std.specs.Prelude.{None, Option, Some, is_some}
use Rattle.std.specs.Option.{unwrap_or}

-- `Reserved(v)` with a v that has a variant of its own
abbrev pub misnamed : S2Xv2Mode → Bool
misnamed M.Reserved0 = false
misnamed M.S2X = false
misnamed M.S2XTimeSlicing = false
misnamed M.Reserved3 = false
misnamed M.S2XSuperframe = false
misnamed M.S2XSuperframeTimeSlicing = false
misnamed (M.Reserved v) = ltb v 6

-- a test of the superframe block, which does not hold where there is none
abbrev pub in_superframe : (S2Xv2Superframe → Bool) → Option S2Xv2Superframe → Bool
in_superframe test (Some f) = test f
in_superframe test None = false

-- what mode and flags say of the parts
abbrev pub parts_a : S2Xv2SatelliteDeliverySystem → List Bool
parts_a r =
    misnamed r.s2xv2_mode  -- 1: mode Reserved(v) with v below 6
    ∷ differ (is_some r.input_stream_identifier) r.multiple_input_stream_flag  -- 2: stream id present differently from the flag
    ∷ differ (is_some r.scrambling_sequence_selector) (has_selector r.s2xv2_mode)  -- 3: selector missing in mode 1 or 2, or present in another
    ∷ and (is_some r.scrambling_sequence_index) (not (unwrap_or r.scrambling_sequence_selector false))  -- 4: index present without selector set
    ∷ differ (is_some r.timeslice_number) (has_timeslice r.s2xv2_mode)  -- 5: timeslice missing in mode 2 or 5, or present in another
    ∷ and (ltb 0 r.num_channel_bonds) (not (eqb r.channel_bond 1))  -- 6: a count above 0 though channel_bond is not 1
    ∷ differ (is_some r.superframe) (has_superframe r.s2xv2_mode)  -- 7: superframe missing in mode 4 or 5, or present in another
    ∷ []

-- what the selectors of the superframe block say
abbrev pub superframe_a : Option S2Xv2Superframe → List Bool
superframe_a o =
    in_superframe (λ f. and (is_some f.sffi) (not f.sffi_selector)) o  -- 8: SFFI present with its selector clear
    ∷ in_superframe (λ f. and (is_some f.beamhopping_time_plan_id) (not f.beam_hopping_time_plan_selector)) o  -- 9: plan id present with its selector clear
    ∷ []

abbrev pub list_a : S2Xv2SatelliteDeliverySystem → List Bool
list_a r = parts_a r ++ superframe_a r.superframe

unfoldable pub inconsistency : S2Xv2SatelliteDeliverySystem → ℕ
inconsistency r = first_of (list_a r)
