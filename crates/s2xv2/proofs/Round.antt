-- Reading what was written. For each part: where its bytes stand, its fields are cut, and so it reads as it was. The wire is not looked at
-- here: `find` says what is cut where a part stands.
-- Assumes nothing.
use mathlib.Core.Path.{◌≡◌, refl, sym, ap, ap₂, ◌∙◌}
use mathlib.Core.List.{List, [], ◌∷◌, ◌++◌}
use mathlib.Core.Bool.{Bool, true, false}
use Prim.Native.Nat.{ℕ, zero, suc, ◌+◌, ◌≤◌}
use native.Mathlib.Nat.{zero-add, add_assoc}
use native.Mathlib.Omega.{arith}
use lib.ListN.{get_or, drop}
use lib.Dec.{eqb}
use Rattle.wire.specs.Flags.{when, is_one, and, only}
use Rattle.wire.specs.Widths.{cut, pack, Fit, Bytes}
use Rattle.wire.specs.Parts.{Part, ◌⦂◌, bytes_of, sizes, AllFit}
use Rattle.wire.proofs.Parts.{bytes_of-append, sizes-append, fit-left, fit-right, bytes-bytes_of, Stands, Found, find, after}
use Rattle.wire.proofs.Flags.{never, is-bit}
use Rattle.s2xv2.specs.Table144b as T
use Rattle.s2xv2.specs.Read.{Present, present_from, present_in, stream_end, scrambling_end, timeslice_end, has_second, bond_size, bond_end, has_plan, superframe_size, superframe_end, body_size, superframe_from, superframe_at, stream_id_at, reserved6_at, index_at, reserved7_at, count_if, first_id_at, second_id_at, record_from, record_at, record_in, read_told, Reading, read_of, tail_of}
use Rattle.s2xv2.specs.Encode.{top_bit, core_values, byte_parts, scrambling_parts, bond_parts, nibble_of, superframe_values, plan_parts, superframe_end_values, superframe_parts, stream_of, scrambling_of, timeslice_of, bond_of, superframe_of, parts_of, encode, encoded_length}
use Rattle.s2xv2.specs.Carried.{carried_block, carried_superframe, carried_id, carried}
use Rattle.s2xv2.specs.declared.record.S2Xv2SatelliteDeliverySystem.{S2Xv2SatelliteDeliverySystem}
use Rattle.s2xv2.specs.declared.superframe.S2Xv2Superframe.{S2Xv2Superframe}
use Rattle.s2xv2.specs.ListA.{list_a, inconsistency}
use Rattle.s2xv2.specs.ListB.{list_b, unwritable}
use Rattle.s2xv2.specs.Held.{Held}
use Rattle.answers.proofs.Tests.{first-clear}
use Rattle.s2xv2.proofs.Lists.{AgreesBlock, AgreesSuperframe, Agrees, agrees, fits}
use Rattle.s2xv2.proofs.Whole.{byte-size, scrambling-size, whole-byte, whole-scrambling, whole-bond, whole_parts, encode-length}
use Rattle.s2xv2.proofs.Reach.{reads-accepted}
use Rattle.std.specs.Prelude.{None, Option, Some, is_some}
use Rattle.std.specs.Option.{unwrap_or}
use Rattle.std.specs.Bool.{then_some}

nth : {vs ws : List ℕ} (i : ℕ) → vs ≡ ws → get_or vs i 0 ≡ get_or ws i 0
nth i e = ap (λ (l : List ℕ). get_or l i 0) e

-- ---- two values that share a field: the selector and what is reserved in its place, SFFI and what is reserved in its place

shared-selector : (c : Option Bool) (v : ℕ) → then_some (is_some c) (is_one (top_bit c v)) ≡ c
shared-selector (Some b) v = ap Some (is-bit b)
shared-selector None v = refl

shared-reserved : (c : Option Bool) (v : ℕ) → when (is_some c) 0 (top_bit c v) ≡ when (is_some c) 0 v
shared-reserved (Some b) v = refl
shared-reserved None v = refl

selected-set : (c : Option Bool) (v : ℕ) → and (is_some c) (is_one (top_bit c v)) ≡ unwrap_or c false
selected-set (Some b) v = is-bit b
selected-set None v = refl

shared-sffi : (t : Bool) (v : Option ℕ) (r : ℕ) → is_some v ≡ t → then_some t (nibble_of t v r) ≡ v
shared-sffi true (Some v) r e = refl
shared-sffi true None r e = never e
shared-sffi false (Some v) r e = never (sym e)
shared-sffi false None r e = refl

shared-nibble : (t : Bool) (v : Option ℕ) (r : ℕ) → when t 0 (nibble_of t v r) ≡ when t 0 r
shared-nibble true v r = refl
shared-nibble false v r = refl

-- ---- a part that stands at p is read as it was

-- what the parts of several fields read as
record ScramblingReads (s : List ℕ) (p : ℕ) (t : Bool) (r : ℕ) (i : Option ℕ) : Type 0 where
  reserved : reserved6_at s p t ≡ only t r
  index : index_at s p t ≡ i

record BondReads (s : List ℕ) (p : ℕ) (t : Bool) (r n : ℕ) (ids : List ℕ) : Type 0 where
  width : only t (bond_size (has_second s p)) ≡ sizes (bond_parts t r n ids)
  reserved : reserved7_at s p t ≡ only t r
  count : count_if t (has_second s p) ≡ n
  first : first_id_at s p t ≡ carried_id 0 n ids
  second : second_id_at s p t (has_second s p) ≡ carried_id 1 n ids

record SuperframeReads (s : List ℕ) (p : ℕ) (o : Option S2Xv2Superframe) : Type 0 where
  width : only (is_some o) (superframe_size (has_plan s p)) ≡ sizes (superframe_parts o)
  block : then_some (is_some o) (superframe_at s p (has_plan s p)) ≡ carried_superframe o

-- the block of the values of f, with f's plan id, is f as the wire carries it
block-from : (f : S2Xv2Superframe) → AgreesBlock f → superframe_from (superframe_values f) f.beamhopping_time_plan_id (superframe_end_values f) ≡ carried_block f
block-from f c = simp (is-bit, shared-sffi f.sffi_selector f.sffi f.reserved_zero_future_use_4 c.sffi, shared-nibble)

block_at : (s : List ℕ) (p q : ℕ) (f : S2Xv2Superframe) (v : Option ℕ) → AgreesBlock f → cut s p T.superframe ≡ superframe_values f → f.beamhopping_time_plan_id ≡ v
    → cut s q T.last_byte ≡ superframe_end_values f → superframe_from (cut s p T.superframe) v (cut s q T.last_byte) ≡ carried_block f
block_at s p q f v c e₁ e₂ e₃ =
    ap (λ (vs : List ℕ). superframe_from vs v (cut s q T.last_byte)) e₁
    ∙ ap (superframe_from (superframe_values f) v) e₃
    ∙ ap (λ (w : Option ℕ). superframe_from (superframe_values f) w (superframe_end_values f)) (sym e₂)
    ∙ block-from f c

module _ (s : List ℕ) (b : Bytes s) where
  byte_reads : {p : ℕ} (l : List ℕ) (v : Option ℕ) → AllFit (byte_parts (8 ∷ []) v) → Stands s p (bytes_of (byte_parts (8 ∷ []) v) l) → stream_id_at s p (is_some v) ≡ v
  unfolding byte_parts
  byte_reads {p} l (Some v) f h = ap Some (nth 0 (find (8 ∷ []) (v ∷ []) refl f.0 b h).fields)
  byte_reads {p} l None f h = refl

  scrambling-reads : {p : ℕ} (l : List ℕ) (t : Bool) (r : ℕ) (i : Option ℕ) → is_some i ≡ t → AllFit (scrambling_parts t r i)
      → Stands s p (bytes_of (scrambling_parts t r i) l) → ScramblingReads s p t r i
  unfolding scrambling_parts
  scrambling-reads {p} l true r (Some v) e f h =
      let x = find T.scrambling (r ∷ v ∷ []) refl f.0 b h in
      record { reserved = nth 0 x.fields; index = ap Some (nth 1 x.fields) }
  scrambling-reads {p} l true r None e f h = never e
  scrambling-reads {p} l false r (Some v) e f h = never (sym e)
  scrambling-reads {p} l false r None e f h = record { reserved = refl; index = refl }

  bond-reads : {p : ℕ} (l : List ℕ) (t : Bool) (r n : ℕ) (ids : List ℕ) → (t ≡ false → n ≡ 0) → AllFit (bond_parts t r n ids)
      → Stands s p (bytes_of (bond_parts t r n ids) l) → BondReads s p t r n ids
  unfolding bond_parts
  bond-reads {p} l true r zero ids c f h = absurd (omega (arith, f.0.1.0))
  bond-reads {p} l true r (suc zero) ids c f h =
      let x = find T.bond_header (r ∷ 0 ∷ []) refl f.0 b h in
      let y = find T.bond_id (get_or ids 0 0 ∷ []) refl f.1.0 b x.rest in
      let d : has_second s p ≡ false = ap is_one (nth 1 x.fields) in
      record { width = simp d; reserved = nth 0 x.fields; count = simp d; first = nth 0 y.fields; second = simp d }
  bond-reads {p} l true r (suc (suc zero)) ids c f h =
      let x = find T.bond_header (r ∷ 1 ∷ []) refl f.0 b h in
      let y = find T.bond_id (get_or ids 0 0 ∷ []) refl f.1.0 b x.rest in
      let z = find T.bond_id (get_or ids 1 0 ∷ []) refl f.1.1.0 b (rw (add_assoc p 1 4) at y.rest) in
      let d : has_second s p ≡ true = ap is_one (nth 1 x.fields) in
      record { width = simp d; reserved = nth 0 x.fields; count = simp d; first = nth 0 y.fields; second = simp d (nth 0 z.fields) }
  bond-reads {p} l true r (suc (suc (suc n))) ids c f h = absurd (omega (arith, f.0.1.0))
  bond-reads {p} l false r n ids c f h = rw (c refl) (record { width = refl; reserved = refl; count = refl; first = refl; second = refl })

  block_reads : {p : ℕ} (l : List ℕ) (f : S2Xv2Superframe) → AgreesBlock f → (t : Bool) → f.beam_hopping_time_plan_selector ≡ t
      → (v : Option ℕ) → f.beamhopping_time_plan_id ≡ v
      → Fit T.superframe (superframe_values f) → AllFit (plan_parts t v ++ (T.last_byte ⦂ superframe_end_values f ∷ []))
      → Stands s p (pack T.superframe (superframe_values f) ++ bytes_of (plan_parts t v ++ (T.last_byte ⦂ superframe_end_values f ∷ [])) l)
      → (has_plan s p ≡ t) × (superframe_at s p t ≡ carried_block f)
  unfolding superframe_at
  block_reads {p} l f c true e (Some v) d g k h =
      let x = find T.superframe (superframe_values f) refl g b h in
      let y = find T.plan (v ∷ []) refl k.0 b x.rest in
      let z = find T.last_byte (superframe_end_values f) refl k.1.0 b (rw (add_assoc p 7 4) at y.rest) in
      (ap is_one (nth 2 x.fields) ∙ is-bit _ ∙ e, simp (nth 0 y.fields) (block_at s p (p + 11) f (Some v) c x.fields d z.fields))
  block_reads {p} l f c true e None d g k h = never (sym (ap is_some d) ∙ c.plan ∙ e)
  block_reads {p} l f c false e (Some v) d g k h = never (sym e ∙ sym c.plan ∙ ap is_some d)
  block_reads {p} l f c false e None d g k h =
      let x = find T.superframe (superframe_values f) refl g b h in
      let z = find T.last_byte (superframe_end_values f) refl k.0 b x.rest in
      (ap is_one (nth 2 x.fields) ∙ is-bit _ ∙ e, block_at s p (p + 7) f None c x.fields d z.fields)

  superframe-reads : {p : ℕ} (l : List ℕ) (o : Option S2Xv2Superframe) → AgreesSuperframe o → AllFit (superframe_parts o) → Stands s p (bytes_of (superframe_parts o) l)
      → SuperframeReads s p o
  unfolding superframe_parts
  superframe-reads {p} l (Some f) c k h =
      let x = block_reads l f c f.beam_hopping_time_plan_selector refl f.beamhopping_time_plan_id refl k.0 k.1 h in
      record { width = simp x.0 (go f.beam_hopping_time_plan_selector); block = simp (x.0, x.1) }
    where
      go : (t : Bool) → superframe_size t ≡ 7 + sizes (plan_parts t f.beamhopping_time_plan_id ++ (T.last_byte ⦂ superframe_end_values f ∷ []))
      go true = refl
      go false = refl
  superframe-reads {p} l None c k h = record { width = refl; block = refl }

-- ---- the record

-- the parts that a record has
abbrev present_of : S2Xv2SatelliteDeliverySystem → Present
present_of r = record {
  stream = is_some r.input_stream_identifier;
  scrambling = unwrap_or r.scrambling_sequence_selector false;
  timeslice = is_some r.timeslice_number;
  bond = eqb r.channel_bond 1;
  superframe = is_some r.superframe;
}

present-from : (r : S2Xv2SatelliteDeliverySystem) → Agrees r → present_from (core_values r) ≡ present_of r
present-from r c = simp (c.mode, is-bit, sym c.stream, sym c.selector, selected-set, sym c.timeslice, sym c.superframe)

-- the record of the core's values vs and of r's other parts, as the wire carries them
abbrev again : S2Xv2SatelliteDeliverySystem → List ℕ → S2Xv2SatelliteDeliverySystem
again r vs =
    record_from vs r.input_stream_identifier
    (only (unwrap_or r.scrambling_sequence_selector false) r.reserved_zero_future_use_6) r.scrambling_sequence_index
    r.timeslice_number
    (only (eqb r.channel_bond 1) r.reserved_zero_future_use_7) r.num_channel_bonds
    (carried_id 0 r.num_channel_bonds r.secondary_delivery_system_ids) (carried_id 1 r.num_channel_bonds r.secondary_delivery_system_ids)
    (carried_superframe r.superframe)

record-from : (r : S2Xv2SatelliteDeliverySystem) → Agrees r → again r (core_values r) ≡ carried r
unfolding carried
record-from r c = simp (c.mode, is-bit, sym c.selector, shared-selector, shared-reserved)

module _ (s : List ℕ) (r : S2Xv2SatelliteDeliverySystem) (tail : List ℕ) (b : Bytes s) (c : Agrees r) (f : AllFit (parts_of r)) (st : Stands s 0 (encode r tail)) where
  abbrev rest₁ : List Part
  rest₁ = scrambling_of r ++ (timeslice_of r ++ (bond_of r ++ superframe_of r))

  abbrev rest₂ : List Part
  rest₂ = timeslice_of r ++ (bond_of r ++ superframe_of r)

  abbrev rest₃ : List Part
  rest₃ = bond_of r ++ superframe_of r

  core-found : Found s 0 T.core (core_values r) (bytes_of (stream_of r ++ rest₁) tail)
  unfolding encode parts_of
  core-found = find T.core (core_values r) refl f.0 b st

  fit₀ : AllFit (stream_of r ++ rest₁)
  unfolding parts_of
  fit₀ = f.1

  fit₁ : AllFit rest₁
  fit₁ = fit-right (stream_of r) rest₁ fit₀

  fit₂ : AllFit rest₂
  fit₂ = fit-right (scrambling_of r) rest₂ fit₁

  fit₃ : AllFit rest₃
  fit₃ = fit-right (timeslice_of r) rest₃ fit₂

  -- where each part starts
  abbrev end₁ : ℕ
  end₁ = 18 + sizes (stream_of r)

  abbrev end₂ : ℕ
  end₂ = end₁ + sizes (scrambling_of r)

  abbrev end₃ : ℕ
  end₃ = end₂ + sizes (timeslice_of r)

  abbrev end₄ : ℕ
  end₄ = end₃ + sizes (bond_of r)

  st₀ : Stands s 18 (bytes_of (stream_of r) (bytes_of rest₁ tail))
  st₀ = rw (bytes_of-append (stream_of r) rest₁ tail) at core-found.rest

  st₁ : Stands s end₁ (bytes_of (scrambling_of r) (bytes_of rest₂ tail))
  st₁ = rw (bytes_of-append (scrambling_of r) rest₂ tail) at (after (stream_of r) (whole-byte _) st₀)

  st₂ : Stands s end₂ (bytes_of (timeslice_of r) (bytes_of rest₃ tail))
  st₂ = rw (bytes_of-append (timeslice_of r) rest₃ tail) at (after (scrambling_of r) (whole-scrambling _ _ _) st₁)

  st₃ : Stands s end₃ (bytes_of (bond_of r) (bytes_of (superframe_of r) tail))
  st₃ = rw (bytes_of-append (bond_of r) (superframe_of r) tail) at (after (timeslice_of r) (whole-byte _) st₂)

  st₄ : Stands s end₄ (bytes_of (superframe_of r) tail)
  st₄ = after (bond_of r) (whole-bond _ _ _ _) st₃

  present-read : present_in s ≡ present_of r
  unfolding present_in
  present-read = ap present_from core-found.fields ∙ present-from r c

  scrambling-read : ScramblingReads s end₁ (unwrap_or r.scrambling_sequence_selector false) r.reserved_zero_future_use_6 r.scrambling_sequence_index
  scrambling-read = scrambling-reads s b _ _ _ _ c.index (fit-left (scrambling_of r) rest₂ fit₁) st₁

  bond-read : BondReads s end₃ (eqb r.channel_bond 1) r.reserved_zero_future_use_7 r.num_channel_bonds r.secondary_delivery_system_ids
  bond-read = bond-reads s b _ _ _ _ _ c.bond (fit-left (bond_of r) (superframe_of r) fit₃) st₃

  superframe-read : SuperframeReads s end₄ r.superframe
  superframe-read = superframe-reads s b _ _ c.block (fit-right (bond_of r) (superframe_of r) fit₃) st₄

  -- the ends of the parts are the sums of their sizes
  end₁-is : stream_end (present_of r) ≡ end₁
  end₁-is = ap (λ (n : ℕ). 18 + n) (byte-size r.input_stream_identifier)

  end₂-is : scrambling_end (present_of r) ≡ end₂
  end₂-is = ap₂ ◌+◌ end₁-is (scrambling-size (unwrap_or r.scrambling_sequence_selector false) r.reserved_zero_future_use_6 r.scrambling_sequence_index)

  end₃-is : timeslice_end (present_of r) ≡ end₃
  end₃-is = ap₂ ◌+◌ end₂-is (byte-size r.timeslice_number)

  end₄-is : bond_end s (present_of r) ≡ end₄
  end₄-is = rw end₃-is (ap (λ (n : ℕ). end₃ + n) bond-read.width)

  end₅-is : superframe_end s (present_of r) ≡ end₄ + sizes (superframe_of r)
  end₅-is = rw end₄-is (ap (λ (n : ℕ). end₄ + n) superframe-read.width)

  size-read : body_size s ≡ sizes (parts_of r)
  unfolding body_size parts_of
  size-read =
      rw present-read
      (end₅-is
      ∙ omega (arith, sizes-append (stream_of r) rest₁, sizes-append (scrambling_of r) rest₂, sizes-append (timeslice_of r) rest₃, sizes-append (bond_of r) (superframe_of r)))

  parts-read : record_at s (present_of r) end₁ end₂ end₃ end₄ ≡ again r (cut s 0 T.core)
  unfolding record_at
  parts-read =
      simp (
        byte_reads s b _ _ (fit-left (stream_of r) rest₁ fit₀) st₀,
        scrambling-read.reserved,
        scrambling-read.index,
        byte_reads s b _ _ (fit-left (timeslice_of r) rest₃ fit₂) st₂,
        bond-read.reserved,
        bond-read.count,
        bond-read.first,
        bond-read.second,
        superframe-read.block,
      )

  record-read : record_in s ≡ carried r
  record-read =
      rw present-read
      (rw (end₄-is, end₃-is, end₂-is, end₁-is) parts-read
      ∙ ap (again r) core-found.fields
      ∙ record-from r c)

behind-parts : (r : S2Xv2SatelliteDeliverySystem) (tail : List ℕ) → drop (sizes (parts_of r)) (encode r tail) ≡ tail
unfolding encode
behind-parts r tail =
    let st : Stands (encode r tail) 0 (bytes_of (parts_of r) tail) = record { there = refl; within = omega arith } in
    let e : Stands (encode r tail) (0 + sizes (parts_of r)) tail = after (parts_of r) (whole_parts r) st in
    ap (λ (k : ℕ). drop k (encode r tail)) (sym (zero-add (sizes (parts_of r)))) ∙ e.there

module _ (r : S2Xv2SatelliteDeliverySystem) (tail : List ℕ) (a : inconsistency r ≡ 0) (d : unwritable r ≡ 0) (h : Held r) (y : Bytes tail) (n : encoded_length r tail ≤ 4096) where
  encode-fits : AllFit (parts_of r)
  unfolding unwritable
  encode-fits = fits r (first-clear 0 (list_b r) d) h

  encode-agrees : Agrees r
  unfolding inconsistency unwritable
  encode-agrees = agrees r (first-clear 0 (list_a r) a) (first-clear 0 (list_b r) d)

  pub encode-bytes : Bytes (encode r tail)
  unfolding encode
  encode-bytes = bytes-bytes_of (parts_of r) tail (whole_parts r) encode-fits y

  stands : Stands (encode r tail) 0 (encode r tail)
  stands = record { there = refl; within = omega arith }

  pub size-encode : body_size (encode r tail) ≡ sizes (parts_of r)
  size-encode = size-read (encode r tail) r tail encode-bytes encode-agrees encode-fits stands

  -- Reading what was written gives the record, with all that the wire does not carry at 0, and the place of the tail ..
  pub read-encode : read_of (encode r tail) ≡ record { told = 0 ∷ sizes (parts_of r) ∷ []; body = carried r }
  unfolding encoded_length
  read-encode =
      let l = encode-length r tail in
      reads-accepted (encode r tail) (rw size-encode (omega arith)) (omega arith)
      ∙ rw (size-encode, record-read (encode r tail) r tail encode-bytes encode-agrees encode-fits stands)

  -- .. where the tail stands.
  pub tail-encode : tail_of (encode r tail) ≡ tail
  tail-encode =
      let e : read_told (encode r tail) ≡ 0 ∷ sizes (parts_of r) ∷ [] = ap (λ (x : Reading). x.told) read-encode in
      simp (e, size-encode) (behind-parts r tail)
