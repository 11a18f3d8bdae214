-- `capi::body::s2xv2_reserved_tail` meets its contract: a start is what the reader tells, and the tail goes to the end; none is a refusal's.
-- Assumes nothing.
use mathlib.Core.Path.{◌≡◌, sym, ap, ◌∙◌}
use Prim.Native.Nat.{◌-◌}
use lib.ListN.{length}
use Rattle.answers.specs.declared.plain.PlainPart.{PlainPart}
use Rattle.s2xv2.proofs.Reach.{accepted-tail}
use Rattle.s2xv2_reader.proofs.Shown.{tells-end, tells_none}
use Rattle.slot.specs.Part.{no_part}
use Rattle.capi.specs.Part.{tail_part, part_in}
use Rattle.capi.proofs.Part.{cut-tail}
use Rattle.capi.proofs.body.s2xv2_reserved_tail.Goals as goal

pub overflow_sub-result : goal.overflow_sub-result
overflow_sub-result c =
    let s = c.args.sel.now in
    (accepted-tail s _ (tells-end s _ (sym c.in-Some.is ∙ c.tail_start.ensures))).1

pub returns-in-Some : goal.returns-in-Some
unfolding tail_part
returns-in-Some c =
    let s = c.args.sel.now in
    let q = c.in-Some.start in
    let t = tells-end s q (sym c.in-Some.is ∙ c.tail_start.ensures) in
    let e : record { place = q; length = length s - q } ≡ tail_part s = simp (sym t, (accepted-tail s _ t).0) in
    (e, ap (λ (p : PlainPart). part_in p s) e ∙ cut-tail s)

pub returns-in-None : goal.returns-in-None
unfolding tail_part
returns-in-None c =
    let s = c.args.sel.now in
    let e : no_part ≡ tail_part s = simp (tells_none s (sym c.in-None.is ∙ c.tail_start.ensures)) in
    (e, ap (λ (p : PlainPart). part_in p s) e ∙ cut-tail s)
