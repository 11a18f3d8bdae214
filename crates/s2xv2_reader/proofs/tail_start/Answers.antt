-- `s2xv2_reader::tail_start` meets its contract: a body that is too long or does not reach its last end is refused, and any other is accepted there.
-- Assumes nothing.
use Rattle.std.specs.Prelude.{◌≡◌, ◌<◌, ◌≤◌, ℕ, List, Bool, true, false, length, leb, Some}
use mathlib.Core.Path.{refl, ap, ◌∙◌}
use Rattle.std.specs.Bool.{then_some}
use borrow.Author.Tests.{leb-true, leb-false}
use Rattle.s2xv2.specs.Read.{read_told}
use Rattle.s2xv2_reader.specs.Seen.{end_in}
use native.Mathlib.Omega.{arith}
use Rattle.s2xv2.specs.Read.{superframe_end, body_size}
use Rattle.s2xv2_layout.specs.Layout.{asked, present_now, ends_now}
use Rattle.s2xv2_layout.specs.declared.present.Present.{Present}
use Rattle.s2xv2_layout.specs.declared.ends.Ends.{Ends}
use Rattle.s2xv2_reader.proofs.Shown.{ends, ends-refused}
use Rattle.s2xv2_reader.proofs.tail_start.Goals as goal
use Rattle.s2xv2_reader.proofs.tail_start.Goals.{then-end-sel, else-end-sel}

-- the end that was found is where the last part ends
size : (s : List ℕ) (k : Present) (e : Ends) → k ≡ present_now s → e ≡ ends_now s k → e.superframe ≡ body_size s
unfolding body_size
size s k e p q = ap (λ (e : Ends). e.superframe) q ∙ ap (λ (k : Present). superframe_end s (asked k)) p

-- a body that reaches the end is accepted if it is within the limit
within : (s : List ℕ) (q : ℕ) → q ≡ body_size s → (b : Bool) → leb (length s) 4096 ≡ b → q ≤ length s → then_some b q ≡ end_in (read_told s)
within s q e true t h = ap Some e ∙ ends s (omega arith) (leb-true _ _ t)
within s q e false t h = ends-refused s (λ k. absurd (omega (arith, leb-false _ _ t)))

beyond : (s : List ℕ) (q : ℕ) → q ≡ body_size s → (b : Bool) → leb q (length s) ≡ b → length s < q → then_some b q ≡ end_in (read_told s)
beyond s q e true t h = absurd (omega (arith, leb-true _ _ t))
beyond s q e false t h = ends-refused s (λ k. omega arith)

pub returns : goal.returns
returns c =
    let s = c.args.sel.now in
    let e = size s _ _ c.present_in.ensures c.ends_of-end.ensures in
    elim c.if-end-sel.branch [
      | then-end-sel w ↦ rw (c.then_some.ensures, w.then_some-is) (within s _ e _ refl w.if-end-sel.true)
      | else-end-sel w ↦ rw (c.then_some.ensures, w.then_some-is) (beyond s _ e _ refl w.if-end-sel.false)
    ]
