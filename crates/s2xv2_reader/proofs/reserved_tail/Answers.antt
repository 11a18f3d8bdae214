-- `s2xv2_reader::reserved_tail` meets its contract: a start is what the reader tells, and behind it stands the tail.
-- Assumes nothing.
use mathlib.Core.Path.{sym, ◌∙◌}
use Rattle.s2xv2.proofs.Reach.{accepted-tail}
use Rattle.s2xv2_reader.proofs.Laws.{rest}
use Rattle.s2xv2_reader.proofs.Shown.{tells-end}
use Rattle.s2xv2_reader.proofs.reserved_tail.Goals as goal

pub slice_bounds-result-count : goal.slice_bounds-result-count
slice_bounds-result-count c =
    let s = c.args.sel.now in
    (accepted-tail s _ (tells-end s _ c.in-Some.ensures)).1

pub slice_bounds-result-start : goal.slice_bounds-result-start
slice_bounds-result-start c =
    let s = c.args.sel.now in
    (accepted-tail s _ (tells-end s _ c.in-Some.ensures)).1

pub returns-in-Some : goal.returns-in-Some
returns-in-Some c =
    let s = c.args.sel.now in
    rest _ s ∙ sym (accepted-tail s _ (tells-end s _ c.in-Some.ensures)).2
