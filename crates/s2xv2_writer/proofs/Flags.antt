-- Laws of flags, of values that a flag says are there, of the mode's code, of the top bit of byte 6, and of the flags of a record as plain numbers.
-- Assumes nothing.
use mathlib.Core.Path.{◌≡◌, refl, sym}
use mathlib.Core.Bool.{Bool, true, false}
use Prim.Native.Nat.{ℕ, zero, suc, ◌≤◌, ◌<◌}
use native.Mathlib.Omega.{arith}
use borrow.Author.Tests.{ne_eqb}
use Rattle.wire.specs.Flags.{when, bit, and, not}
use Rattle.wire.proofs.Flags.{never, bit-small}
use Rattle.wire.specs.Widths.{wide}
use Rattle.wire.proofs.Wide.{narrow}
use Rattle.s2xv2.specs.Table144c.{mode_of, code_of}
use Rattle.s2xv2.specs.Encode.{top_bit, scrambling_parts, plan_parts}
use Rattle.s2xv2.specs.declared.mode.S2Xv2Mode.TheVariants as M
use Rattle.s2xv2.proofs.Modes.{code-mode}
use Rattle.s2xv2.specs.declared.record.S2Xv2SatelliteDeliverySystem.{S2Xv2SatelliteDeliverySystem}
use Rattle.s2xv2_plain.specs.Input.{is_set, mode_in}
use Rattle.s2xv2_plain.specs.Output.{block_of, bytes_of}
use Rattle.s2xv2_measure.specs.Quick.{Packed}
use Rattle.std.specs.Prelude.{None, Option, Some, is_some}
use Rattle.std.specs.Option.{unwrap_or}
use Rattle.std.specs.Bool.{then_some}

-- ---- flags, and the code of a mode

pub bit-set : (v : ℕ) → v < 2 → bit (is_set v) ≡ v
bit-set zero h = refl
bit-set (suc zero) h = refl
bit-set (suc (suc n)) h = absurd (omega arith)

-- a selector that is there wherever it is set is read off alone
pub selected-set : (has v : ℕ) → v ≤ has → unwrap_or (then_some (is_set has) (is_set v)) false ≡ is_set v
selected-set zero zero h = refl
selected-set zero (suc v) h = absurd (omega arith)
selected-set (suc has) v h = rw (ne_eqb (suc has) 0 (λ e. omega arith)) refl

pub code_in : (reserved code : ℕ) → code_of (mode_in reserved code) ≡ code
code_in reserved code = go (is_set reserved)
  where
    go : (b : Bool) → code_of (when b (M.Reserved code) (mode_of code)) ≡ code
    go true = refl
    go false = code-mode code

-- ---- a value that is there where it is asked for is the value itself

pub there-scrambling : (s t : Bool) (r v : ℕ) → and s (not t) ≡ false → scrambling_parts s r (then_some t v) ≡ scrambling_parts s r (Some v)
unfolding scrambling_parts
there-scrambling true true r v e = refl
there-scrambling true false r v e = never (sym e)
there-scrambling false t r v e = refl

pub there-plan : (s t : Bool) (v : ℕ) → and s (not t) ≡ false → plan_parts s (then_some t v) ≡ plan_parts s (Some v)
there-plan true true v e = refl
there-plan true false v e = never (sym e)
there-plan false t v e = refl

-- ---- the top bit of byte 6

pub top-is : (t : Bool) (s v : ℕ) → s < 2 → top_bit (then_some t (is_set s)) v ≡ when t s v
top-is true s v h = bit-set s h
top-is false s v h = refl

pub top_small : (t : Bool) (s v : ℕ) → s < 2 → and (not (is_some (then_some t (is_set s)))) (wide 1 v) ≡ false → when t s v < 2
top_small true s v h e = h
top_small false s v h e = narrow 1 v e

-- ---- a record as plain numbers

selected-there : (o : Option Bool) → bit (unwrap_or o false) ≤ bit (is_some o)
selected-there (Some true) = omega arith
selected-there (Some false) = omega arith
selected-there None = omega arith

pub packed-out : (r : S2Xv2SatelliteDeliverySystem) → Packed (bytes_of r)
packed-out r = record {
  stream = bit-small r.multiple_input_stream_flag;
  selector = bit-small (unwrap_or r.scrambling_sequence_selector false);
  sffi = bit-small (block_of r.superframe).sffi_selector;
  plan = bit-small (block_of r.superframe).beam_hopping_time_plan_selector;
  reference = bit-small r.ncr_reference;
  version = bit-small r.ncr_version;
  asked = selected-there r.scrambling_sequence_selector;
}
