-- What a superframe block that is there stores is what is asked of it: its numbers (`block-numbers`) and its bytes (`block-bytes`). `bit-mod` says that a bit
-- is itself, taken for a flag.
-- Assumes nothing.
use Rattle.std.specs.Prelude.{◌≡◌, ℕ, ◌+◌, ◌%◌, Bool, true, false, List, get_or, set}
use mathlib.Core.Path.{refl, sym}
use native.Mathlib.Nat.{div-one}
use native.Mathlib.Omega.{arith}
use Rattle.wire.specs.Flags.{when, bit, is_one}
use Rattle.wire.specs.Widths.{cut}
use Rattle.wire.proofs.Flags.{bit_is}
use Rattle.s2xv2.specs.Table144b as T
use Rattle.s2xv2.specs.Read.{has_plan, plan_at, superframe_at}
use Rattle.s2xv2_plain.proofs.Back.{is-there}
use Rattle.s2xv2_reader.specs.Stored.{start_numbers, start_bytes, end_bytes, block_numbers, block_bytes}
use Rattle.std.specs.Prelude.{Some}
use Rattle.std.specs.Option.{unwrap_or}
use Rattle.std.specs.Bool.{then_some}

pub bit-mod : (x : ℕ) → bit (is_one (x % 2)) ≡ x % 2
bit-mod x = bit_is (x % 2) (omega arith)

or-zero : (b : Bool) (v : ℕ) → unwrap_or (then_some b v) 0 ≡ when b v 0
or-zero true v = refl
or-zero false v = refl

module _ (ws bs s : List ℕ) (p : ℕ) (plan : Bool) where
  pub block-numbers : set (start_numbers ws (cut s p T.superframe)) 9 (unwrap_or (plan_at s p plan) 0) ≡ block_numbers ws (Some (superframe_at s p plan))
  unfolding superframe_at
  block-numbers = refl

  -- its last byte stands behind the plan id
  pub block-bytes : has_plan s p ≡ plan
      → end_bytes (start_bytes bs (cut s p T.superframe)) (get_or s (p + when plan 11 7) 0) ≡ block_bytes bs (Some (superframe_at s p plan))
  unfolding superframe_at
  block-bytes d = simp (div-one, is-there, or-zero, bit-mod, sym d)
