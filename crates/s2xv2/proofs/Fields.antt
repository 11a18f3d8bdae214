-- Where each field stands, by byte, bits before it, and width. The record's definition goes by the widths of Table
-- 144b alone, so that the two descriptions hold each other. Reserved bits are among the fields, wherever the wire carries them.
-- Assumes nothing.
use mathlib.Core.Path.{◌≡◌, refl}
use mathlib.Core.List.{List, [], ◌∷◌}
use mathlib.Core.Bool.{Bool, true, false}
use Prim.Native.Nat.{ℕ, ◌+◌}
use lib.ListN.{get_or}
use lib.Dec.{eqb}
use Rattle.wire.specs.Flags.{when, is_one, and, only}
use Rattle.wire.specs.Bits.{bits}
use Rattle.s2xv2.specs.Table144c.{mode_of, code_of, has_selector, has_timeslice, has_superframe}
use Rattle.s2xv2.specs.Read.{present_in, stream_end, scrambling_end, timeslice_end, bond_end, body_size, superframe_at, record_at, record_in}
use Rattle.s2xv2.proofs.Modes.{code-mode}
use Rattle.std.specs.Prelude.{None, Some}

module _ (s : List ℕ) where
  -- The core, bytes 0 to 17.
  pub core-fields :
      ((record_in s).delivery_system_id ≡ bits s 0 0 32)
      × (code_of (record_in s).s2xv2_mode ≡ bits s 4 0 4)
      × ((record_in s).multiple_input_stream_flag ≡ is_one (bits s 4 4 1))
      × ((record_in s).roll_off ≡ bits s 4 5 3)
      × ((record_in s).reserved_zero_future_use_2 ≡ bits s 5 0 2)
      × ((record_in s).ncr_reference ≡ is_one (bits s 5 2 1))
      × ((record_in s).ncr_version ≡ is_one (bits s 5 3 1))
      × ((record_in s).channel_bond ≡ bits s 5 4 2)
      × ((record_in s).polarization ≡ bits s 5 6 2)
      × ((record_in s).ts_gs_s2x_mode ≡ bits s 6 1 2)
      × ((record_in s).receiver_profiles ≡ bits s 6 3 5)
      × ((record_in s).satellite_id ≡ bits s 7 0 24)
      × ((record_in s).frequency ≡ bits s 10 0 32)
      × ((record_in s).symbol_rate ≡ bits s 14 0 32)
  unfolding record_at
  core-fields = (refl, code-mode _, refl, refl, refl, refl, refl, refl, refl, refl, refl, refl, refl, refl)

  -- The top bit of byte 6: the selector in modes 1 and 2, and reserved_1 in the others.
  pub selector-bit : has_selector (record_in s).s2xv2_mode ≡ true → (record_in s).scrambling_sequence_selector ≡ Some (is_one (bits s 6 0 1))
  unfolding record_at
  selector-bit e = simp e

  pub reserved-1-bit : has_selector (record_in s).s2xv2_mode ≡ false → (record_in s).reserved_zero_future_use_1 ≡ bits s 6 0 1
  unfolding record_at
  reserved-1-bit e = simp e

  -- Which parts are there: by the stream flag, by the mode and its selector, by the mode, by channel_bond, by the mode.
  pub present-bits : present_in s ≡ record {
    stream = is_one (bits s 4 4 1);
    scrambling = and (has_selector (mode_of (bits s 4 0 4))) (is_one (bits s 6 0 1));
    timeslice = has_timeslice (mode_of (bits s 4 0 4));
    bond = eqb (bits s 5 4 2) 1;
    superframe = has_superframe (mode_of (bits s 4 0 4));
  }
  unfolding present_in
  present-bits = refl

  -- The stream id, at byte 18.
  pub stream-byte : (present_in s).stream ≡ true → (record_in s).input_stream_identifier ≡ Some (bits s 18 0 8)
  unfolding record_at
  stream-byte e = simp e

  -- The scrambling index and reserved_6, behind the stream id.
  pub scrambling-fields : (present_in s).scrambling ≡ true
      → ((record_in s).reserved_zero_future_use_6 ≡ bits s (stream_end (present_in s)) 0 6)
      × ((record_in s).scrambling_sequence_index ≡ Some (bits s (stream_end (present_in s)) 6 18))
  unfolding record_at
  scrambling-fields e = simp e (refl, refl)

  -- The timeslice, behind the scrambling index.
  pub timeslice-byte : (present_in s).timeslice ≡ true → (record_in s).timeslice_number ≡ Some (bits s (scrambling_end (present_in s)) 0 8)
  unfolding record_at
  timeslice-byte e = simp e

  -- The header of the bonds and their first id, behind the timeslice.
  pub bond-fields : (present_in s).bond ≡ true
      → ((record_in s).reserved_zero_future_use_7 ≡ bits s (timeslice_end (present_in s)) 0 7)
      × ((record_in s).num_channel_bonds ≡ when (is_one (bits s (timeslice_end (present_in s)) 7 1)) 2 1)
      × (get_or (record_in s).secondary_delivery_system_ids 0 0 ≡ bits s (timeslice_end (present_in s) + 1) 0 32)
  unfolding record_at
  bond-fields e = simp e (refl, refl, refl)

  -- The second id, behind the first.
  pub second-id : (present_in s).bond ≡ true → is_one (bits s (timeslice_end (present_in s)) 7 1) ≡ true
      → get_or (record_in s).secondary_delivery_system_ids 1 0 ≡ bits s (timeslice_end (present_in s) + 5) 0 32
  unfolding record_at
  second-id e d = simp (e, d)

  -- The superframe block that starts at byte p, but for its plan id and last byte.
  pub block-fields : (p : ℕ) (plan : Bool)
      → ((superframe_at s p plan).sosf_wh_sequence_number ≡ bits s p 0 8)
      × ((superframe_at s p plan).sffi_selector ≡ is_one (bits s (p + 1) 0 1))
      × ((superframe_at s p plan).beam_hopping_time_plan_selector ≡ is_one (bits s (p + 1) 1 1))
      × ((superframe_at s p plan).reserved_zero_future_use_2 ≡ bits s (p + 1) 2 2)
      × ((superframe_at s p plan).reference_scrambling_index ≡ bits s (p + 1) 4 20)
      × ((superframe_at s p plan).payload_scrambling_index ≡ bits s (p + 4) 4 20)
  unfolding superframe_at
  block-fields p plan = (refl, refl, refl, refl, refl, refl)

  -- The nibble of its byte 4: SFFI where its selector is set, and reserved_4 where it is clear.
  pub sffi-nibble : (p : ℕ) (plan : Bool) → (superframe_at s p plan).sffi_selector ≡ true → (superframe_at s p plan).sffi ≡ Some (bits s (p + 4) 0 4)
  unfolding superframe_at
  sffi-nibble p plan e = simp e

  pub reserved-4-nibble : (p : ℕ) (plan : Bool) → (superframe_at s p plan).sffi_selector ≡ false → (superframe_at s p plan).reserved_zero_future_use_4 ≡ bits s (p + 4) 0 4
  unfolding superframe_at
  reserved-4-nibble p plan e = simp e

  -- The last byte, behind the plan id if there is one.
  pub last-fields : (p : ℕ) (plan : Bool)
      → ((superframe_at s p plan).superframe_pilots_wh_sequence_number ≡ bits s (p + when plan 11 7) 0 5)
      × ((superframe_at s p plan).postamble_pli ≡ bits s (p + when plan 11 7) 5 3)
  unfolding superframe_at
  last-fields p plan = (refl, refl)

  pub plan-field : (p : ℕ) → (superframe_at s p true).beamhopping_time_plan_id ≡ Some (bits s (p + 7) 0 32)
  unfolding superframe_at
  plan-field p = refl

  -- ---- where the parts stand, and what an absent part reads as

  -- Where each part behind the core ends, in plain numbers: a part that is not there ends where the one before it does.
  pub ends : (stream_end (present_in s) ≡ 18 + only (present_in s).stream 1)
      × (scrambling_end (present_in s) ≡ stream_end (present_in s) + only (present_in s).scrambling 3)
      × (timeslice_end (present_in s) ≡ scrambling_end (present_in s) + only (present_in s).timeslice 1)
      × (bond_end s (present_in s) ≡ timeslice_end (present_in s) + only (present_in s).bond (when (is_one (bits s (timeslice_end (present_in s)) 7 1)) 9 5))
      × (body_size s ≡ bond_end s (present_in s) + only (present_in s).superframe (when (is_one (bits s (bond_end s (present_in s) + 1) 1 1)) 12 8))
  unfolding body_size
  ends = (refl, refl, refl, refl, refl)

  -- The block of the record stands behind the bonds, with a plan id where its hopping selector is set.
  pub block-there : (present_in s).superframe ≡ true
      → (record_in s).superframe ≡ Some (superframe_at s (bond_end s (present_in s)) (is_one (bits s (bond_end s (present_in s) + 1) 1 1)))
  unfolding record_at
  block-there e = simp e

  -- A part that is not there reads as absent, no bonds, and 0 for what is reserved in it and for the ids.
  pub absent : ((present_in s).stream ≡ false → (record_in s).input_stream_identifier ≡ None)
      × ((present_in s).scrambling ≡ false → ((record_in s).scrambling_sequence_index ≡ None) × ((record_in s).reserved_zero_future_use_6 ≡ 0))
      × ((present_in s).timeslice ≡ false → (record_in s).timeslice_number ≡ None)
      × ((present_in s).bond ≡ false
      → ((record_in s).num_channel_bonds ≡ 0) × ((record_in s).reserved_zero_future_use_7 ≡ 0) × ((record_in s).secondary_delivery_system_ids ≡ 0 ∷ 0 ∷ []))
      × ((present_in s).superframe ≡ false → (record_in s).superframe ≡ None)
  unfolding record_at
  absent = (λ e. simp e, λ e. simp e (refl, refl), λ e. simp e, λ e. simp e (refl, refl, refl), λ e. simp e)

  -- A field that shares its place with another reads as absent, or as 0, where the other stands there; so does the second of two ids where there is one.
  pub absent-field : (has_selector (record_in s).s2xv2_mode ≡ true → (record_in s).reserved_zero_future_use_1 ≡ 0)
      × (has_selector (record_in s).s2xv2_mode ≡ false → (record_in s).scrambling_sequence_selector ≡ None)
      × (is_one (bits s (timeslice_end (present_in s)) 7 1) ≡ false → get_or (record_in s).secondary_delivery_system_ids 1 0 ≡ 0)
      × ((p : ℕ) (plan : Bool) → (superframe_at s p plan).sffi_selector ≡ true → (superframe_at s p plan).reserved_zero_future_use_4 ≡ 0)
      × ((p : ℕ) (plan : Bool) → (superframe_at s p plan).sffi_selector ≡ false → (superframe_at s p plan).sffi ≡ None)
      × ((p : ℕ) → (superframe_at s p false).beamhopping_time_plan_id ≡ None)
  unfolding record_at superframe_at
  absent-field = (λ e. simp e, λ e. simp e, λ e. go (present_in s).bond refl e, λ p plan e. simp e, λ p plan e. simp e, λ p. refl)
    where
      go : (t : Bool) → (present_in s).bond ≡ t → is_one (bits s (timeslice_end (present_in s)) 7 1) ≡ false → get_or (record_in s).secondary_delivery_system_ids 1 0 ≡ 0
      go true d e = simp (d, e)
      go false d e = simp d
