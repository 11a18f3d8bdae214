-- Laws of lists A and B: a record that A passes is what its mode and flags say, and one that B passes too fits the wire.
-- Assumes nothing.
use mathlib.Core.Path.{◌≡◌, refl, sym}
use mathlib.Core.List.{List, [], ◌∷◌, ◌++◌}
use mathlib.Core.Bool.{Bool, true, false}
use Prim.Native.Nat.{ℕ, zero, suc, ◌^◌, ◌<◌}
use native.Mathlib.Omega.{arith}
use lib.ListN.{get_or}
use lib.Dec.{eqb, ltb}
use borrow.Author.Tests.{ltb-false}
use Rattle.answers.proofs.Tests.{Clear}
use Rattle.wire.proofs.Wide.{narrow}
use Rattle.wire.specs.Flags.{and, not, differ}
use Rattle.wire.specs.Widths.{Fit, wide}
use Rattle.wire.specs.Parts.{◌⦂◌, AllFit}
use Rattle.wire.proofs.Parts.{fit_append}
use Rattle.wire.proofs.Flags.{bit-small}
use Rattle.s2xv2.specs.Table144b as T
use Rattle.s2xv2.specs.Table144c.{mode_of, code_of, has_selector, has_timeslice, has_superframe}
use Rattle.s2xv2.specs.Encode.{top_bit, core_values, byte_parts, scrambling_parts, bond_parts, superframe_end_values, plan_parts, superframe_parts, stream_of, scrambling_of, timeslice_of, bond_of, superframe_of, parts_of}
use Rattle.wire.specs.Count.{less_one}
use Rattle.s2xv2.specs.ListA.{misnamed, in_superframe, list_a}
use Rattle.s2xv2.specs.ListB.{superframe_b, list_b}
use Rattle.s2xv2.proofs.Modes.{unnamed}
use Rattle.s2xv2.specs.Held.{HeldSuperframe, Held}
use Rattle.s2xv2.specs.declared.record.S2Xv2SatelliteDeliverySystem.{S2Xv2SatelliteDeliverySystem}
use Rattle.s2xv2.specs.declared.superframe.S2Xv2Superframe.{S2Xv2Superframe}
use Rattle.s2xv2.specs.declared.mode.S2Xv2Mode.{S2Xv2Mode}
use Rattle.s2xv2.specs.declared.mode.S2Xv2Mode.TheVariants as M
use Rattle.std.specs.Prelude.{None, Option, Some, is_some}
use Rattle.std.specs.Option.{unwrap_or}

-- ---- tests that fail

same_flag : (a b : Bool) → differ a b ≡ false → a ≡ b
same_flag true true e = refl
same_flag true false e = e
same_flag false true e = sym e
same_flag false false e = refl

-- what is there is asked for, and what is asked for is there
both_ways : (a b : Bool) → and a (not b) ≡ false → and b (not a) ≡ false → a ≡ b
both_ways true true e f = refl
both_ways true false e f = e
both_ways false true e f = sym f
both_ways false false e f = refl

named : (m : S2Xv2Mode) → misnamed m ≡ false → mode_of (code_of m) ≡ m
unfolding mode_of
named M.Reserved0 e = refl
named M.S2X e = refl
named M.S2XTimeSlicing e = refl
named M.Reserved3 e = refl
named M.S2XSuperframe e = refl
named M.S2XSuperframeTimeSlicing e = refl
named (M.Reserved v) e = unnamed v (ltb-false v 6 e)

bonded : (n c : ℕ) → and (ltb 0 n) (not (eqb c 1)) ≡ false → eqb c 1 ≡ false → n ≡ 0
bonded n c e h = go (ltb 0 n) refl (rw h at e)
  where
    go : (t : Bool) → ltb 0 n ≡ t → and t true ≡ false → n ≡ 0
    go true d f = absurd (let z : ◌≡◌ {A = ℕ} 0 1 = cc in omega arith)
    go false d f = let k = ltb-false 0 n d in omega arith

-- ---- what a record is that both lists pass

pub record AgreesBlock (f : S2Xv2Superframe) : Type 0 where
  pub sffi : is_some f.sffi ≡ f.sffi_selector
  pub plan : is_some f.beamhopping_time_plan_id ≡ f.beam_hopping_time_plan_selector

abbrev pub AgreesSuperframe : Option S2Xv2Superframe → Type 0
AgreesSuperframe (Some f) = AgreesBlock f
AgreesSuperframe None = Unit

-- the mode has its own name, and what is present is what mode and flags ask for
pub record Agrees (r : S2Xv2SatelliteDeliverySystem) : Type 0 where
  pub mode : mode_of (code_of r.s2xv2_mode) ≡ r.s2xv2_mode
  pub stream : is_some r.input_stream_identifier ≡ r.multiple_input_stream_flag
  pub selector : is_some r.scrambling_sequence_selector ≡ has_selector r.s2xv2_mode
  pub index : is_some r.scrambling_sequence_index ≡ unwrap_or r.scrambling_sequence_selector false
  pub timeslice : is_some r.timeslice_number ≡ has_timeslice r.s2xv2_mode
  pub bond : eqb r.channel_bond 1 ≡ false → r.num_channel_bonds ≡ 0
  pub superframe : is_some r.superframe ≡ has_superframe r.s2xv2_mode
  pub block : AgreesSuperframe r.superframe

module _ (r : S2Xv2SatelliteDeliverySystem) (a : Clear (list_a r)) (b : Clear (list_b r)) where
  pub agrees : Agrees r
  agrees = record {
    mode = named r.s2xv2_mode a.0;
    stream = same_flag _ _ a.1.0;
    selector = same_flag _ _ a.1.1.0;
    index = both_ways _ _ a.1.1.1.0 b.1.1.1.1.1.1.1.1.1.0;
    timeslice = same_flag _ _ a.1.1.1.1.0;
    bond = bonded r.num_channel_bonds r.channel_bond a.1.1.1.1.1.0;
    superframe = same_flag _ _ a.1.1.1.1.1.1.0;
    block = go r.superframe a.1.1.1.1.1.1.1.0 a.1.1.1.1.1.1.1.1.0
        b.1.1.1.1.1.1.1.1.1.1.1.1.1.1.1.1.1.0 b.1.1.1.1.1.1.1.1.1.1.1.1.1.1.1.1.1.1.1.0;
  }
    where
      go : (f : Option S2Xv2Superframe)
          → in_superframe (λ f. and (is_some f.sffi) (not f.sffi_selector)) f ≡ false
          → in_superframe (λ f. and (is_some f.beamhopping_time_plan_id) (not f.beam_hopping_time_plan_selector)) f ≡ false
          → in_superframe (λ f. and f.sffi_selector (not (is_some f.sffi))) f ≡ false
          → in_superframe (λ f. and f.beam_hopping_time_plan_selector (not (is_some f.beamhopping_time_plan_id))) f ≡ false
          → AgreesSuperframe f
      go (Some f) e₁ e₂ e₃ e₄ = record { sffi = both_ways _ _ e₁ e₃; plan = both_ways _ _ e₂ e₄ }
      go None e₁ e₂ e₃ e₄ = tt

-- ---- each part fits

pub top-fits : (c : Option Bool) (v : ℕ) → and (not (is_some c)) (wide 1 v) ≡ false → top_bit c v < 2 ^ 1
top-fits (Some b) v e = bit-small b
top-fits None v e = narrow 1 v e

byte_fits : (v : Option ℕ) → unwrap_or v 0 < 2 ^ 8 → AllFit (byte_parts (8 ∷ []) v)
unfolding byte_parts
byte_fits (Some v) h = ((h, tt), tt)
byte_fits None h = tt

scrambling-fits : (t : Bool) (r : ℕ) (i : Option ℕ) → and t (wide 18 (unwrap_or i 0)) ≡ false → and t (wide 6 r) ≡ false → AllFit (scrambling_parts t r i)
unfolding scrambling_parts
scrambling-fits true r i e f = ((narrow 6 r f, (narrow 18 _ e, tt)), tt)
scrambling-fits false r i e f = tt

bond-fits : (t : Bool) (r n : ℕ) (ids : List ℕ) → and t (wide 1 (less_one n)) ≡ false → and t (wide 7 r) ≡ false → get_or ids 0 0 < 2 ^ 32 → get_or ids 1 0 < 2 ^ 32
    → AllFit (bond_parts t r n ids)
unfolding bond_parts
bond-fits true r zero ids e f h k = absurd (omega (arith, narrow 1 255 e))
bond-fits true r (suc zero) ids e f h k = ((narrow 7 r f, (omega arith, tt)), ((h, tt), tt))
bond-fits true r (suc (suc zero)) ids e f h k = ((narrow 7 r f, (omega arith, tt)), ((h, tt), ((k, tt), tt)))
bond-fits true r (suc (suc (suc n))) ids e f h k = absurd (omega (arith, narrow 1 (suc (suc n)) e))
bond-fits false r n ids e f h k = tt

plan-fits : (t : Bool) (v : Option ℕ) (f : S2Xv2Superframe) → unwrap_or v 0 < 2 ^ 32 → Fit T.last_byte (superframe_end_values f)
    → AllFit (plan_parts t v ++ (T.last_byte ⦂ superframe_end_values f ∷ []))
plan-fits true v f h k = ((h, tt), (k, tt))
plan-fits false v f h k = (k, tt)

superframe-fits : (o : Option S2Xv2Superframe) → Clear (superframe_b o) → HeldSuperframe o → AllFit (superframe_parts o)
unfolding superframe_parts
superframe-fits (Some f) b h = (
  (h.sosf, (bit-small f.sffi_selector, (bit-small f.beam_hopping_time_plan_selector, (narrow 2 _ b.1.1.0, (narrow 20 _ b.0, (narrow 4 _ b.1.1.1.1.0, (narrow 20 _ b.1.0, tt))))))),
  plan-fits f.beam_hopping_time_plan_selector f.beamhopping_time_plan_id f h.plan
      (narrow 5 _ b.1.1.1.1.1.1.0, (narrow 3 _ b.1.1.1.1.1.1.1.0, tt)),
)
superframe-fits None b h = tt

-- ---- all parts fit

module _ (r : S2Xv2SatelliteDeliverySystem) (b : Clear (list_b r)) (h : Held r) where
  core-fits : Fit T.core (core_values r)
  core-fits = (
    h.id,
    (
      narrow 4 _ b.0,
      (
        bit-small r.multiple_input_stream_flag,
        (
          narrow 3 _ b.1.0,
          (
            narrow 2 _ b.1.1.0,
            (
              bit-small r.ncr_reference,
              (
                bit-small r.ncr_version,
                (
                  narrow 2 _ b.1.1.1.0,
                  (
                    narrow 2 _ b.1.1.1.1.0,
                    (
                      top-fits r.scrambling_sequence_selector _ b.1.1.1.1.1.0,
                      (narrow 2 _ b.1.1.1.1.1.1.0, (narrow 5 _ b.1.1.1.1.1.1.1.0, (narrow 24 _ b.1.1.1.1.1.1.1.1.0, (h.frequency, (h.rate, tt))))),
                    ),
                  ),
                ),
              ),
            ),
          ),
        ),
      ),
    ),
  )

  pub fits : AllFit (parts_of r)
  unfolding parts_of
  fits =
      let b₁₀ = b.1.1.1.1.1.1.1.1.1 in (
        core-fits,
        fit_append (stream_of r) _ (byte_fits _ h.stream)
            (fit_append (scrambling_of r) _ (scrambling-fits (unwrap_or r.scrambling_sequence_selector false) _ _ b₁₀.1.0 b₁₀.1.1.0)
            (fit_append (timeslice_of r) _ (byte_fits _ h.timeslice)
            (fit_append (bond_of r) (superframe_of r) (bond-fits (eqb r.channel_bond 1) _ _ _ b₁₀.1.1.1.0 b₁₀.1.1.1.1.0 h.first h.second)
            (superframe-fits r.superframe b₁₀.1.1.1.1.1 h.block)))),
      )
