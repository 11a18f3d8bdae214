-- A record as plain numbers means that record again (`back`). The laws before it say the same of each field, and what is seen of a value that a flag says
-- is there. Assumes nothing.
use mathlib.Core.Path.{◌≡◌, refl}
use mathlib.Core.List.{List, [], ◌∷◌}
use native.Mathlib.Omega.{arith}
use lib.ListN.{length, get_or}
use mathlib.Core.Bool.{Bool, true, false}
use Prim.Native.Nat.{ℕ}
use Rattle.wire.specs.Flags.{bit}
use Rattle.s2xv2.specs.Table144c.{mode_of, code_of}
use Rattle.s2xv2.specs.declared.mode.S2Xv2Mode.{S2Xv2Mode}
use Rattle.s2xv2.specs.declared.mode.S2Xv2Mode.TheVariants as M
use Rattle.s2xv2.specs.declared.superframe.S2Xv2Superframe.{S2Xv2Superframe}
use Rattle.s2xv2.specs.declared.record.S2Xv2SatelliteDeliverySystem.{S2Xv2SatelliteDeliverySystem}
use Rattle.s2xv2_plain.specs.Output.{is_reserved, numbers_of, bytes_of}
use Rattle.s2xv2_plain.specs.Input.{is_set, mode_in, block_in, meant}
use Rattle.std.specs.Prelude.{None, Option, Some, is_some}
use Rattle.std.specs.Option.{unwrap_or}
use Rattle.std.specs.Bool.{then_some}

-- ---- field by field

pub set-bit : (b : Bool) → is_set (bit b) ≡ b
set-bit true = refl
set-bit false = refl

mode-back : (m : S2Xv2Mode) → mode_in (is_reserved m) (code_of m) ≡ m
unfolding mode_of
mode-back M.Reserved0 = refl
mode-back M.S2X = refl
mode-back M.S2XTimeSlicing = refl
mode-back M.Reserved3 = refl
mode-back M.S2XSuperframe = refl
mode-back M.S2XSuperframeTimeSlicing = refl
mode-back (M.Reserved v) = refl

some-back : {X : Type 0} (o : Option X) (d : X) → then_some (is_some o) (unwrap_or o d) ≡ o
some-back (Some v) d = refl
some-back None d = refl

ids-back : (ids : List ℕ) → length ids ≡ 2 → get_or ids 0 0 ∷ get_or ids 1 0 ∷ [] ≡ ids
ids-back (a ∷ b ∷ []) e = refl
ids-back [] e = absurd (omega (arith, e))
ids-back (a ∷ []) e = absurd (omega (arith, e))
ids-back (a ∷ b ∷ d ∷ ids) e = absurd (omega (arith, e))

superframe-back : (r : S2Xv2SatelliteDeliverySystem) (o : Option S2Xv2Superframe) → r.superframe ≡ o
    → then_some (is_set (bit (is_some r.superframe))) (block_in (numbers_of r) (bytes_of r)) ≡ r.superframe
superframe-back r (Some f) e = simp (e, set-bit, some-back)
superframe-back r None e = simp e

pub back : (r : S2Xv2SatelliteDeliverySystem) → length r.secondary_delivery_system_ids ≡ 2 → meant (numbers_of r) (bytes_of r) ≡ r
back r h =
    let ids = ids-back r.secondary_delivery_system_ids h in
    rw (superframe-back r r.superframe refl, ids) (simp (set-bit, mode-back, some-back))

-- ---- what is seen of a value that a flag says is there

pub is-there : {X : Type 0} (b : Bool) (v : X) → is_some (then_some b v) ≡ b
is-there true v = refl
is-there false v = refl
