-- `hexadecimal::decode::add` meets its contract: a second digit makes a byte.
-- Assumes nothing.
use mathlib.Core.Path.{sym, ap}
use Rattle.lines.specs.Out.{Out, write}
use Rattle.hexadecimal.specs.Text.{pairs_of}
use Rattle.hexadecimal.proofs.decode.add.Goals as goal

pub returns-in-Some : goal.returns-in-Some
unfolding write pairs_of
returns-in-Some c =
    let p = c.put.ensures in
    record {
      low = tt;
      buffer = p.same;
      same = λ rest. rw c.in-Some.is (sym (ap (λ (o : Out). write o (pairs_of rest)) p.wrote.is));
    }
