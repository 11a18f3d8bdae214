-- `begin::sized_plain` meets its contract: what is staged and fits is begun, and any other goes the long way.
-- Assumes nothing.
use mathlib.Core.Path.{refl, sym, ◌∙◌}
use Rattle.s2xv2_plain.specs.Input.{meant}
use Rattle.begin.proofs.Telling.{crossed}
use Rattle.begin.proofs.Staging.{begun}
use Rattle.begin.proofs.sized_plain.Goals as goal

pub returns-then-is_fit : goal.returns-then-is_fit
returns-then-is_fit c =
    let a = c.args in
    let fits = sym c.is_fit.ensures ∙ c.if-is_fit.true in
    let w = crossed (begun a.n (meant a.w.now a.b.now) a.reserved_tail.now _ _ c.requires c.in-Some.ensures fits) c.accepted.ensures refl refl in
    record { answer = w.0; bytes = w.1.0; numbers = w.1.1 }
