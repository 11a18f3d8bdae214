-- `lines::put::put` meets its contract: either way its test picks the case of `put_one`.
-- Assumes nothing.
use borrow.Author.Tests.{lt-ltb, le-ltb}
use Rattle.lines.specs.Out.{write, put_one}
use Rattle.lines.proofs.put.put.Goals as goal

pub returns-then-at-out : goal.returns-then-at-out
unfolding write put_one
returns-then-at-out c = record { is = simp (lt-ltb _ _ c.if-at-out.true) }

pub returns-else-at-out : goal.returns-else-at-out
unfolding write put_one
returns-else-at-out c = record { is = simp (le-ltb _ _ c.if-at-out.false) }
