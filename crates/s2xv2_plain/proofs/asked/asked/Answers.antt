-- `s2xv2_plain::asked::asked` meets its contract: a code above 5 is that of `Reserved`, and any other that of a mode with a name.
-- Assumes nothing.
use Rattle.s2xv2.proofs.Modes.{unnamed}
use Rattle.s2xv2_plain.proofs.Reserved.{reserved-named}
use Rattle.s2xv2_plain.proofs.asked.asked.Goals as goal

pub returns-then-code-gt5 : goal.returns-then-code-gt5
returns-then-code-gt5 c = rw (unnamed c.args.code c.if-code-gt5.true) (rw c.row.ensures at c.word.ensures)

pub returns-else-code-gt5 : goal.returns-else-code-gt5
returns-else-code-gt5 c =
    let row = rw c.from_u8.ensures at c.row-else-code-gt5.ensures in
    rw (reserved-named c.args.code c.if-code-gt5.false) (rw row at c.word-else-code-gt5.ensures)
