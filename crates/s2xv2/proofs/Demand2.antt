-- Demand 2, over the definitions alone: which bodies are accepted and what one that is cut tells, that reading and writing are inverse to each other, and by
-- what a record is refused. Each theorem has its sentence above it; the files beside this one have the steps.
-- Assumes nothing.
use mathlib.Core.Logic.{◌↔◌}
use mathlib.Core.Path.{◌≡◌, sym, ap, ◌∙◌}
use mathlib.Core.List.{List, [], ◌∷◌, ◌++◌}
use mathlib.Core.Bool.{Bool, true, false}
use Prim.Native.Nat.{ℕ, ◌+◌, ◌-◌, ◌≤◌, ◌<◌}
use native.Mathlib.Omega.{arith}
use lib.ListN.{length, drop, get_or, replicate}
use Rattle.wire.specs.Flags.{when, is_one, only}
use Rattle.wire.specs.Bits.{bits}
use Rattle.wire.specs.Widths.{Bytes}
use Rattle.wire.specs.Parts.{sizes}
use Rattle.s2xv2.specs.Table144c.{has_selector}
use Rattle.s2xv2.specs.Read.{present_in, stream_end, timeslice_end, bond_end, has_plan, block_end, superframe_at, body_size, least_total, record_in, read_told, read_of, tail_of}
use Rattle.answers.specs.Answer.{number_of}
use Rattle.s2xv2.specs.Encode.{parts_of, encode, encoded_length}
use Rattle.s2xv2.specs.ListA.{inconsistency}
use Rattle.s2xv2.specs.ListB.{unwritable}
use Rattle.s2xv2.specs.Length.{length_told}
use Rattle.s2xv2.specs.Write.{write_told, written}
use Rattle.s2xv2.specs.Carried.{carried}
use Rattle.s2xv2.specs.Held.{Held}
use Rattle.s2xv2.specs.declared.record.S2Xv2SatelliteDeliverySystem.{S2Xv2SatelliteDeliverySystem}
use Rattle.s2xv2.proofs.Sizes as sizes
use Rattle.s2xv2.proofs.Least as least
use Rattle.s2xv2.proofs.Sizes.{one_of, mode_bits, block_place}
use Rattle.s2xv2.proofs.Reach.{told-accepted, accepted-reaches}
use Rattle.s2xv2.proofs.Fields.{core-fields, reserved-1-bit, scrambling-fields, bond-fields, block-fields, reserved-4-nibble}
use Rattle.s2xv2.proofs.Whole.{encode-length}
use Rattle.s2xv2.proofs.Round as round
use Rattle.s2xv2.proofs.Back as back
use Rattle.s2xv2.proofs.Domain.{read-consistent, read-writable, read_held, read-carried}
use Rattle.s2xv2.proofs.Ignored.{ignored-length, ignored-answer, ignored-written}
use Rattle.s2xv2.proofs.Written.{accepted-length, accepted-writable, written-accepted, told-room, told-field, told-written}

-- ---- reading

-- A body of at most 4,096 bytes is accepted exactly when its length reaches the size that its mode, flags and bond count dictate ..
pub accepted-exactly : (s : List ℕ) → length s ≤ 4096 → (number_of (read_told s) ≡ 0) ↔ (body_size s ≤ length s)
accepted-exactly = sizes.accepted-exactly

-- .. which is 18; 1 more for the stream id under its flag; 3 for the scrambling index in modes 1 and 2 under the selector; 1 for the timeslice in modes 2 and 5; under
-- channel_bond 1, 5 for one bond and 9 for two; in modes 4 and 5, 8 for the superframe block and 12 with a plan id.
pub size-dictated : (s : List ℕ) → body_size s ≡ block_place s + only (one_of 4 5 (mode_bits s)) (when (is_one (bits s (block_place s + 1) 1 1)) 12 8)
size-dictated = sizes.size-dictated

-- .. No longer body is accepted, and these sizes run from 18 to 41.
pub accepted-within : (s : List ℕ) → number_of (read_told s) ≡ 0 → length s ≤ 4096
accepted-within = sizes.accepted-within

pub size-range : (s : List ℕ) → (18 ≤ body_size s) × (body_size s ≤ 41)
size-range = sizes.size-range

-- A body that is refused with 1 tells, last, its length and its least total; the length is below need, and need is not above the least total.
pub short-told : (s : List ℕ) → number_of (read_told s) ≡ 1
    → (read_told s ≡ 1 ∷ get_or (read_told s) 1 0 ∷ get_or (read_told s) 2 0 ∷ length s ∷ least_total s ∷ [])
    × (length s < get_or (read_told s) 2 0)
    × (get_or (read_told s) 2 0 ≤ least_total s)
short-told = least.short-told

-- No body that begins with these bytes and is accepted has fewer than the least total ..
pub least-needed : (s t : List ℕ) → number_of (read_told (s ++ t)) ≡ 0 → least_total s ≤ length (s ++ t)
least-needed = least.least-needed

-- .. and it is reached: filled up to it with zero bytes, a body of 18 bytes or more is accepted; except one that ends inside the first eight bytes of a
-- superframe block whose hopping selector is there and set.
pub least-reached : (s : List ℕ) → 18 ≤ length s → length s ≤ 4096
    → ((present_in s).superframe ≡ true → has_plan s (bond_end s (present_in s)) ≡ true → block_end s (present_in s) ≤ length s)
    → number_of (read_told (s ++ replicate (least_total s - length s) 0)) ≡ 0
least-reached s c h believed = least.least-reached s c believed h

-- Reserved bits are in the record, in every place where the wire carries them: the two of byte 5; the top one of byte 6 outside modes 1 and 2; the
-- six before a scrambling index; the seven before a bond count; the two of a superframe block, and its four where SFFI is absent.
pub reserved-bits : (s : List ℕ)
    → ((record_in s).reserved_zero_future_use_2 ≡ bits s 5 0 2)
    × (has_selector (record_in s).s2xv2_mode ≡ false → (record_in s).reserved_zero_future_use_1 ≡ bits s 6 0 1)
    × ((present_in s).scrambling ≡ true → (record_in s).reserved_zero_future_use_6 ≡ bits s (stream_end (present_in s)) 0 6)
    × ((present_in s).bond ≡ true → (record_in s).reserved_zero_future_use_7 ≡ bits s (timeslice_end (present_in s)) 0 7)
    × ((p : ℕ) (plan : Bool) → (superframe_at s p plan).reserved_zero_future_use_2 ≡ bits s (p + 1) 2 2)
    × ((p : ℕ) (plan : Bool) → (superframe_at s p plan).sffi_selector ≡ false → (superframe_at s p plan).reserved_zero_future_use_4 ≡ bits s (p + 4) 0 4)
reserved-bits s = (
  (core-fields s).4,
  reserved-1-bit s,
  λ e. (scrambling-fields s e).0,
  λ e. (bond-fields s e).0,
  λ p plan. (block-fields s p plan).3,
  reserved-4-nibble s,
)

-- ---- both ways

-- Reading what the writer accepts gives the record, with what the wire does not carry at 0, and the tail.
pub read-written : (r : S2Xv2SatelliteDeliverySystem) (tail : List ℕ) (room : ℕ) → Held r → Bytes tail → number_of (write_told r tail room) ≡ 0
    → (read_of (encode r tail) ≡ record { told = 0 ∷ sizes (parts_of r) ∷ []; body = carried r }) × (tail_of (encode r tail) ≡ tail)
read-written r tail room h y z =
    let w = accepted-writable r tail room z in
    (round.read-encode r tail w.consistent w.carried h y w.within, round.tail-encode r tail w.consistent w.carried h y w.within)

-- Writing what the reader accepts, with its tail, gives the same bytes ..
pub write_read : (s : List ℕ) → Bytes s → number_of (read_told s) ≡ 0 → encode (read_of s).body (tail_of s) ≡ s
write_read s y z =
    let h = accepted-reaches s z in
    simp (told-accepted s h.0 h.1) (back.encode-read s y h.0)

-- .. and the same length, for the writer accepts it wherever there is room.
pub write-read-accepted : (s : List ℕ) → Bytes s → number_of (read_told s) ≡ 0 → (room : ℕ) → length s ≤ room
    → write_told (read_of s).body (tail_of s) room ≡ 0 ∷ length s ∷ []
write-read-accepted s y z room k =
    let h = accepted-reaches s z in
    let e : encoded_length (record_in s) (drop (body_size s) s) ≡ length s = sym (encode-length _ _) ∙ ap length (back.encode-read s y h.0) in
    simp (told-accepted s h.0 h.1)
    (told-written (record_in s) (drop (body_size s) s) (read-consistent s) (omega (arith, e, h.1)) room (omega (arith, e, k)) (read-writable s y)
    ∙ ap (λ (n : ℕ). 0 ∷ n ∷ []) e)

-- .. In a buffer with room it leaves the body's bytes, and the old bytes behind them.
pub rewritten : (s buf : List ℕ) → Bytes s → number_of (read_told s) ≡ 0 → length s ≤ length buf → written (read_of s).body (tail_of s) buf ≡ s ++ drop (length s) buf
rewritten s buf y z k =
    let e = write_read s y z in
    let l : encoded_length (read_of s).body (tail_of s) ≡ length s = sym (encode-length _ _) ∙ ap length e in
    written-accepted (read_of s).body (tail_of s) buf (length s) (sym (write-read-accepted s y z (length buf) k)) ∙ rw (e, l)

-- What the wire does not carry of a record, the writer ignores: of every record, length and writer answer what they answer for what the wire carries of it, and the
-- writer leaves the same buffer.
pub ignored : (r : S2Xv2SatelliteDeliverySystem) (tail buf : List ℕ)
    → (length_told (carried r) tail ≡ length_told r tail)
    × (write_told (carried r) tail (length buf) ≡ write_told r tail (length buf))
    × (written (carried r) tail buf ≡ written r tail buf)
ignored r tail buf = (ignored-length r tail, ignored-answer r tail (length buf), ignored-written r tail buf)

-- The wire carries all of a record that was read.
pub carried-read : (s : List ℕ) → carried (record_in s) ≡ record_in s
carried-read = read-carried

-- The numbers of a record that was read are within their types: so `read-written` speaks of every record that was read.
pub held-read : (s : List ℕ) → Bytes s → Held (record_in s)
held-read = read_held

-- ---- refusals of the writer

module _ (r : S2Xv2SatelliteDeliverySystem) (tail : List ℕ) (a : inconsistency r ≡ 0) (n : encoded_length r tail ≤ 4096) where
  -- A consistent record whose encoding is at most 4,096 is refused, where there is room, exactly if list B finds something in it ..
  pub refused-exactly : (room : ℕ) → encoded_length r tail ≤ room → (number_of (write_told r tail room) ≡ 0) ↔ (unwritable r ≡ 0)
  refused-exactly room h = (λ z. (accepted-writable r tail room z).carried, λ b. ap number_of (told-written r tail a n room h b))

  -- .. and then by the first place that holds.
  pub refused-first : (room : ℕ) → encoded_length r tail ≤ room → 0 < unwritable r → write_told r tail room ≡ 4 ∷ unwritable r ∷ []
  refused-first = told-field r tail a n

  -- With room below the length, it is refused exactly by 5.
  pub refused-room : (room : ℕ) → room < encoded_length r tail → write_told r tail room ≡ 5 ∷ encoded_length r tail ∷ room ∷ []
  refused-room = told-room r tail a n

-- The length call's answer is the number of bytes written, wherever the writer accepts.
pub length-written : (r : S2Xv2SatelliteDeliverySystem) (tail : List ℕ) (room : ℕ) → number_of (write_told r tail room) ≡ 0
    → (write_told r tail room ≡ length_told r tail) × (length_told r tail ≡ 0 ∷ length (encode r tail) ∷ [])
length-written r tail room z =
    let w = accepted-writable r tail room z in
    let e = accepted-length r tail w.consistent w.within in
    (told-written r tail w.consistent w.within room w.fits w.carried ∙ sym e, e ∙ ap (λ (k : ℕ). 0 ∷ k ∷ []) (sym (encode-length r tail)))
