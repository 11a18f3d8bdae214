-- `s2xv2::mode::row_at` meets its contract: that each row is what the definitions have in the mode of its code is one test, computed over the table,
-- and a code of more than four bits has no name.
-- Assumes nothing.
use Prim.Native.Nat.{ℕ, ◌+◌}
use native.Mathlib.Omega.{arith}
use Rattle.wire.specs.Flags.{only}
use Rattle.wire.proofs.Tables.{at_each}
use Rattle.s2xv2.specs.Table144c.{mode_of, has_selector, has_timeslice, has_superframe}
use Rattle.s2xv2.proofs.Modes.{unnamed}
use Rattle.s2xv2.proofs.mode.row_at.Goals as goal

-- what the row of a code has to be
abbrev rule : ℕ → ℕ
rule code = only (has_selector (mode_of code)) 1 + only (has_timeslice (mode_of code)) 2 + only (has_superframe (mode_of code)) 4

-- the rows are those of the goal, and the test over them closes by `refl`
pub returns-then-code-lt16 : goal.returns-then-code-lt16
unfolding mode_of
returns-then-code-lt16 c = let h = c.if-code-lt16.true in simp (at_each rule)

pub returns-else-code-lt16 : goal.returns-else-code-lt16
returns-else-code-lt16 c = rw (unnamed c.args.code (omega arith))
