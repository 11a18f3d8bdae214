-- `slot::read::record_in` meets its contract: what the reader answers for the body is what its slot shows.
-- Assumes nothing.
use mathlib.Core.Path.{sym, ap, ◌∙◌}
use Rattle.std.proofs.lemmas.Result.{err_from_is_err_and}
use Rattle.s2xv2_reader.specs.Seen.{seen}
use Rattle.slot.proofs.Reading.{seen-refused, seen-accepted, seen-within}
use Rattle.slot.proofs.read.record_in.Goals as goal

pub returns-in_err-parsed : goal.returns-in_err-parsed
returns-in_err-parsed c =
    let p = err_from_is_err_and c.from_residual.result c.from_residual.ensures.1 in
    rw (p.1, p.2) (seen-refused _ c.args.at _ (ap seen (sym c.in_err-parsed.was) ∙ c.parse.ensures))

pub tail_at-requires : goal.tail_at-requires
tail_at-requires c = (seen-within c.args.body.now c.args.at _ (ap seen (sym c.in_ok-parsed.was) ∙ c.parse.ensures), c.requires.0, c.requires.1)

pub returns : goal.returns
returns c = simp c.tail_at.ensures (seen-accepted c.args.body.now c.args.at _ (ap seen (sym c.in_ok-parsed.was) ∙ c.parse.ensures))
