-- Writing what was read. For each part: what stands at p is the part's bytes, made from what was read there, and then what stands behind it.
-- Assumes nothing.
use mathlib.Core.Path.{◌≡◌, refl, sym, ap, ◌∙◌}
use mathlib.Core.List.{List, [], ◌∷◌, ◌++◌}
use mathlib.Core.Bool.{Bool, true, false}
use Prim.Native.Nat.{ℕ, ◌+◌, ◌≤◌, ◌<◌}
use native.Mathlib.Nat.{add-zero}
use native.Mathlib.Omega.{arith}
use lib.ListN.{length, get_or, drop}
use Rattle.wire.specs.Flags.{when, bit, is_one, only}
use Rattle.wire.specs.Widths.{cut, pack, Bytes}
use Rattle.wire.specs.Parts.{Part, ◌⦂◌, bytes_of}
use Rattle.wire.proofs.Cut.{fit_cut}
use Rattle.wire.proofs.Parts.{bytes_of-append, found}
use Rattle.wire.proofs.Flags.{bit_is}
use Rattle.s2xv2.specs.Table144b as T
use Rattle.s2xv2.specs.Table144c.{mode_of, has_selector}
use Rattle.s2xv2.specs.Read.{Present, present_in, stream_end, scrambling_end, timeslice_end, has_second, bond_size, bond_end, has_plan, superframe_size, superframe_end, body_size, plan_at, superframe_at, stream_id_at, reserved6_at, index_at, reserved7_at, count_if, first_id_at, second_id_at, record_at, record_in}
use Rattle.s2xv2.specs.Encode.{top_bit, core_values, byte_parts, scrambling_parts, bond_parts, nibble_of, superframe_values, plan_parts, superframe_parts, parts_of, encode}
use Rattle.s2xv2.proofs.Modes.{code-mode}
use Rattle.std.specs.Prelude.{Some}
use Rattle.std.specs.Option.{unwrap_or}
use Rattle.std.specs.Bool.{then_some}
use Rattle.answers.proofs.Options.{is-selected}

-- ---- what is made of a field gives the field back

top_back : (has : Bool) (x : ℕ) → x < 2 → top_bit (then_some has (is_one x)) (when has 0 x) ≡ x
top_back true x h = bit_is x h
top_back false x h = refl

pub nibble-back : (t : Bool) (x : ℕ) → nibble_of t (then_some t x) (when t 0 x) ≡ x
nibble-back true x = refl
nibble-back false x = refl

-- ---- the parts

module _ (s : List ℕ) (y : Bytes s) where
  -- the mode, and the top bit of byte 6
  abbrev mode : ℕ
  mode = get_or (cut s 0 T.core) 1 0

  abbrev top : ℕ
  top = get_or (cut s 0 T.core) 9 0

  core-back : core_values (record_in s) ≡ cut s 0 T.core
  unfolding record_at
  core-back =
      let f = fit_cut s 0 T.core refl y in
      simp (
        code-mode,
        bit_is _ f.1.1.0,
        bit_is _ f.1.1.1.1.1.0,
        bit_is _ f.1.1.1.1.1.1.0,
        top_back (has_selector (mode_of mode)) top f.1.1.1.1.1.1.1.1.1.0,
      )

  block_back : (p : ℕ) (d : Bool) → superframe_values (superframe_at s p d) ≡ cut s p T.superframe
  unfolding superframe_at
  block_back p d =
      let f = fit_cut s p T.superframe refl y in
      simp (bit_is _ f.1.0, bit_is _ f.1.1.0, nibble-back)

  byte-encodes : (p : ℕ) (t : Bool) → p + only t 1 ≤ length s → drop p s ≡ bytes_of (byte_parts (8 ∷ []) (stream_id_at s p t)) (drop (p + only t 1) s)
  unfolding byte_parts
  byte-encodes p true h = found s p (8 ∷ []) refl y h
  byte-encodes p false h = rw (add-zero p)

  scrambling-encodes : (p : ℕ) (t : Bool) → p + only t 3 ≤ length s → drop p s ≡ bytes_of (scrambling_parts t (reserved6_at s p t) (index_at s p t)) (drop (p + only t 3) s)
  unfolding scrambling_parts
  scrambling-encodes p true h = found s p T.scrambling refl y h
  scrambling-encodes p false h = rw (add-zero p)

  header-encodes : (p : ℕ) (d : Bool) → has_second s p ≡ d → p + 1 ≤ length s → drop p s ≡ pack T.bond_header (reserved7_at s p true ∷ bit d ∷ []) ++ drop (p + 1) s
  header-encodes p d e h =
      let x : get_or (cut s p T.bond_header) 1 0 ≡ bit d = sym (bit_is _ (fit_cut s p T.bond_header refl y).1.0) ∙ ap bit e in
      found s p T.bond_header refl y h ∙ ap (λ (k : ℕ). pack T.bond_header (reserved7_at s p true ∷ k ∷ []) ++ drop (p + 1) s) x

  id-encodes : (p q : ℕ) → p + 4 ≤ length s → p + 4 ≡ q → drop p s ≡ pack T.bond_id (cut s p T.bond_id) ++ drop q s
  id-encodes p q h e = rw (← e) (found s p T.bond_id refl y h)

  bonds-encode : (p : ℕ) (d : Bool) → has_second s p ≡ d → p + bond_size d ≤ length s
      → drop p s ≡ bytes_of (bond_parts true (reserved7_at s p true) (count_if true d) (first_id_at s p true ∷ second_id_at s p true d ∷ [])) (drop (p + bond_size d) s)
  unfolding bond_parts
  bonds-encode p true e h =
      header-encodes p true e (omega arith)
      ∙ ap (λ (l : List ℕ). pack T.bond_header (reserved7_at s p true ∷ 1 ∷ []) ++ l)
      (id-encodes (p + 1) (p + 5) (omega arith) (omega arith)
      ∙ ap (λ (l : List ℕ). pack T.bond_id (cut s (p + 1) T.bond_id) ++ l) (id-encodes (p + 5) (p + 9) (omega arith) (omega arith)))
  bonds-encode p false e h =
      header-encodes p false e (omega arith)
      ∙ ap (λ (l : List ℕ). pack T.bond_header (reserved7_at s p true ∷ 0 ∷ []) ++ l) (id-encodes (p + 1) (p + 5) (omega arith) (omega arith))

  bond-encodes : (p : ℕ) (t : Bool) → p + only t (bond_size (has_second s p)) ≤ length s
      → drop p s
      ≡ bytes_of (bond_parts t (reserved7_at s p t) (count_if t (has_second s p)) (first_id_at s p t ∷ second_id_at s p t (has_second s p) ∷ [])) (drop (p + only t (bond_size (has_second s p))) s)
  unfolding bond_parts
  bond-encodes p true h = bonds-encode p (has_second s p) refl h
  bond-encodes p false h = rw (add-zero p)

  -- the block's parts, from its fields
  block-parts : (p : ℕ) (d : Bool) (l : List ℕ) → has_plan s p ≡ d
      → bytes_of (superframe_parts (Some (superframe_at s p d))) l
      ≡ pack T.superframe (cut s p T.superframe) ++ bytes_of (plan_parts d (plan_at s p d) ++ (T.last_byte ⦂ cut s (p + when d 11 7) T.last_byte ∷ [])) l
  unfolding superframe_parts superframe_at
  block-parts p d l e =
      ap (λ (vs : List ℕ). pack T.superframe vs ++ bytes_of (plan_parts (has_plan s p) (plan_at s p d) ++ (T.last_byte ⦂ cut s (p + when d 11 7) T.last_byte ∷ [])) l) (block_back p d)
      ∙ ap (λ (t : Bool). pack T.superframe (cut s p T.superframe) ++ bytes_of (plan_parts t (plan_at s p d) ++ (T.last_byte ⦂ cut s (p + when d 11 7) T.last_byte ∷ [])) l) e

  last-encodes : (p q : ℕ) → p + 1 ≤ length s → p + 1 ≡ q → drop p s ≡ pack T.last_byte (cut s p T.last_byte) ++ drop q s
  last-encodes p q h e = rw (← e) (found s p T.last_byte refl y h)

  block-encodes : (p : ℕ) (d : Bool) → has_plan s p ≡ d → p + superframe_size d ≤ length s
      → drop p s ≡ bytes_of (superframe_parts (Some (superframe_at s p d))) (drop (p + superframe_size d) s)
  block-encodes p true e h =
      found s p T.superframe refl y (omega arith)
      ∙ ap (λ (l : List ℕ). pack T.superframe (cut s p T.superframe) ++ l)
      (id-encodes (p + 7) (p + 11) (omega arith) (omega arith)
      ∙ ap (λ (l : List ℕ). pack T.plan (cut s (p + 7) T.plan) ++ l) (last-encodes (p + 11) (p + 12) (omega arith) (omega arith)))
      ∙ sym (block-parts p true (drop (p + 12) s) e)
  block-encodes p false e h =
      found s p T.superframe refl y (omega arith)
      ∙ ap (λ (l : List ℕ). pack T.superframe (cut s p T.superframe) ++ l) (last-encodes (p + 7) (p + 8) (omega arith) (omega arith))
      ∙ sym (block-parts p false (drop (p + 8) s) e)

  superframe-encodes : (p : ℕ) (t : Bool) → p + only t (superframe_size (has_plan s p)) ≤ length s
      → drop p s ≡ bytes_of (superframe_parts (then_some t (superframe_at s p (has_plan s p)))) (drop (p + only t (superframe_size (has_plan s p))) s)
  unfolding superframe_parts
  superframe-encodes p true h = block-encodes p (has_plan s p) refl h
  superframe-encodes p false h = rw (add-zero p)

  -- ---- all parts

  -- parts from p on, and parts behind them
  then : (p q : ℕ) (l : List ℕ) (ps qs : List Part) → drop p s ≡ bytes_of ps (drop q s) → drop q s ≡ bytes_of qs l → drop p s ≡ bytes_of (ps ++ qs) l
  then p q l ps qs e₁ e₂ = e₁ ∙ ap (bytes_of ps) e₂ ∙ sym (bytes_of-append ps qs l)

  abbrev stream_read : Present → List Part
  stream_read k = byte_parts (8 ∷ []) (stream_id_at s 18 k.stream)

  abbrev scrambling_read : Bool → Present → List Part
  scrambling_read t k = scrambling_parts t (reserved6_at s (stream_end k) k.scrambling) (index_at s (stream_end k) k.scrambling)

  abbrev timeslice_read : Present → List Part
  timeslice_read k = byte_parts (8 ∷ []) (stream_id_at s (scrambling_end k) k.timeslice)

  abbrev bond_read : Present → List Part
  bond_read k =
      bond_parts k.bond (reserved7_at s (timeslice_end k) k.bond) (count_if k.bond (has_second s (timeslice_end k)))
      (first_id_at s (timeslice_end k) k.bond ∷ second_id_at s (timeslice_end k) k.bond (has_second s (timeslice_end k)) ∷ [])

  abbrev superframe_read : Present → List Part
  superframe_read k = superframe_parts (then_some k.superframe (superframe_at s (bond_end s k) (has_plan s (bond_end s k))))

  -- the parts after the core, as they were read; t says whether the scrambling index is there
  abbrev rest₂ : Present → List Part
  rest₂ k = timeslice_read k ++ (bond_read k ++ superframe_read k)

  abbrev rest₁ : Bool → Present → List Part
  rest₁ t k = scrambling_read t k ++ rest₂ k

  abbrev rest₀ : Bool → Present → List Part
  rest₀ t k = stream_read k ++ rest₁ t k

  rest-encodes : (k : Present) → superframe_end s k ≤ length s → drop 18 s ≡ bytes_of (rest₀ k.scrambling k) (drop (superframe_end s k) s)
  rest-encodes k h =
      let z = drop (superframe_end s k) s in
      then 18 (stream_end k) z (stream_read k) (rest₁ k.scrambling k) (byte-encodes 18 k.stream (omega arith))
      (then (stream_end k) (scrambling_end k) z (scrambling_read k.scrambling k) (rest₂ k) (scrambling-encodes (stream_end k) k.scrambling (omega arith))
      (then (scrambling_end k) (timeslice_end k) z (timeslice_read k) (bond_read k ++ superframe_read k) (byte-encodes (scrambling_end k) k.timeslice (omega arith))
      (then (timeslice_end k) (bond_end s k) z (bond_read k) (superframe_read k) (bond-encodes (timeslice_end k) k.bond (omega arith)) (superframe-encodes (bond_end s k) k.superframe h))))

  parts-back : parts_of (record_in s) ≡ T.core ⦂ cut s 0 T.core ∷ rest₀ (present_in s).scrambling (present_in s)
  unfolding parts_of record_at present_in
  parts-back =
      ap (λ (vs : List ℕ). T.core ⦂ vs ∷ rest₀ (unwrap_or (then_some (has_selector (mode_of mode)) (is_one top)) false) (present_in s)) core-back
      ∙ ap (λ (t : Bool). T.core ⦂ cut s 0 T.core ∷ rest₀ t (present_in s)) (is-selected (has_selector (mode_of mode)) (is_one top))

  -- Writing what was read, with its tail, gives the bytes.
  pub encode-read : body_size s ≤ length s → encode (record_in s) (drop (body_size s) s) ≡ s
  unfolding encode body_size
  encode-read h =
      ap (λ (ps : List Part). bytes_of ps (drop (superframe_end s (present_in s)) s)) parts-back
      ∙ sym (found s 0 T.core refl y (omega arith) ∙ ap (λ (l : List ℕ). pack T.core (cut s 0 T.core) ++ l) (rest-encodes (present_in s) h))
