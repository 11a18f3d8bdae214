-- `hexadecimal::decode::count_part` meets its contract: the characters that are digits are counted.
-- Assumes nothing.
use Rattle.std.proofs.lemmas.List.{take_all}
use Rattle.hexadecimal.proofs.Texts.{digits-count}
use Rattle.hexadecimal.proofs.decode.count_part.Goals as goal

pub returns : goal.returns
returns c =
    let s = c.args.part.now in
    rw (digits-count s) (rw (take_all _ s c.loop-c-test.false) at c.loop-c.invariant)
