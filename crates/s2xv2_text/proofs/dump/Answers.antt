-- `s2xv2_text::dump` meets its contract: the test picks the case, and a buffer with the room holds the longest text.
-- Assumes nothing.
use Rattle.std.specs.Prelude.{◌<◌, ◌≤◌, [], ◌∷◌, length}
use mathlib.Core.Path.{ap}
use native.Mathlib.Omega.{arith}
use borrow.Author.Tests.{lt-ltb, le-ltb}
use Rattle.lines.specs.Out.{Out}
use Rattle.s2xv2_text.specs.Dump.{room, dump_of, dump_told, dumped_into}
use Rattle.lines.proofs.Length.{fits}
use Rattle.s2xv2_text.proofs.Most.{dump-most}
use Rattle.s2xv2_text.proofs.dump.Goals as goal

pub returns-then-have-lt2048 : goal.returns-then-have-lt2048
unfolding dump_told dumped_into
returns-then-have-lt2048 c =
    let short : length c.args.out.now < room = omega arith in
    record { answer = rw (lt-ltb _ _ short); text = rw (lt-ltb _ _ short) }

pub returns : goal.returns
unfolding dump_told dumped_into
returns c =
    let a = c.args in
    let enough : room ≤ length a.out.now = omega arith in
    let h : length (dump_of a.sel.now) ≤ length a.out.now = omega (arith, dump-most a.sel.now, enough) in
    let e = fits h c.text_of.ensures in
    record {
      answer = rw (le-ltb _ _ enough) (ap (λ (o : Out). 0 ∷ o.at ∷ []) e);
      text = rw (le-ltb _ _ enough) (ap (λ (o : Out). o.bytes) e);
    }
