-- Laws of the mode that is meant where the flag of a reserved mode says what is so (`mode-same`); its code is the one that crosses (`code_in`).
-- Assumes nothing.
use mathlib.Core.Path.{◌≡◌, refl}
use mathlib.Core.Bool.{Bool, true, false}
use Prim.Native.Nat.{ℕ}
use Rattle.wire.specs.Flags.{when}
use Rattle.s2xv2.specs.Table144c.{mode_of, code_of}
use Rattle.s2xv2.proofs.Modes.{by_code, code-mode}
use Rattle.s2xv2.specs.declared.mode.S2Xv2Mode.TheVariants as M
use Rattle.s2xv2_plain.specs.Input.{is_set, mode_in}
use Rattle.s2xv2_plain.specs.Output.{is_reserved}

pub mode-same : (n res : ℕ) → res ≡ is_reserved (mode_of n) → mode_in res n ≡ mode_of n
mode-same n res =
    by_code (λ n m. res ≡ is_reserved m → when (is_set res) (M.Reserved n) m ≡ m)
    (λ e. rw e refl) (λ e. rw e refl) (λ e. rw e refl) (λ e. rw e refl) (λ e. rw e refl) (λ e. rw e refl) (λ v h e. rw e refl) n

pub code_in : (res code : ℕ) → code_of (mode_in res code) ≡ code
code_in res code = go (is_set res)
  where
    go : (t : Bool) → code_of (when t (M.Reserved code) (mode_of code)) ≡ code
    go true = refl
    go false = code-mode code
