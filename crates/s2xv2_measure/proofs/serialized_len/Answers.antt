-- `s2xv2_measure::serialized_len` meets its contract: the record made plain means the record again, and its flags are bits, so that its size is their sum.
-- Assumes nothing.
use mathlib.Core.Path.{◌≡◌, sym, ap, subst, ◌∙◌}
use mathlib.Core.List.{[], ◌∷◌}
use Prim.Native.Nat.{ℕ, ◌+◌, ◌≤◌, ◌<◌}
use native.Mathlib.Omega.{arith}
use borrow.Author.Tests.{lt-ltb, le-ltb}
use lib.ListN.{length}
use Rattle.wire.specs.Parts.{sizes}
use Rattle.answers.specs.Answer.{saturated}
use Rattle.s2xv2.specs.Encode.{parts_of, encoded_length}
use Rattle.s2xv2.specs.Length.{length_told}
use Rattle.s2xv2.specs.declared.record.S2Xv2SatelliteDeliverySystem.{S2Xv2SatelliteDeliverySystem}
use Rattle.s2xv2_plain.specs.declared.types.Plain.{Plain}
use Rattle.s2xv2_measure.specs.Quick.{Counted}
use Rattle.s2xv2_measure.proofs.Accepted.{placed, placed-none, capped_same}
use Rattle.s2xv2_measure.proofs.Sizes.{counted_of}
use Rattle.s2xv2_measure.proofs.serialized_len.Goals as goal

pub returns-in-Some : goal.returns-in-Some
unfolding length_told
returns-in-Some c =
    let k = placed _ _ (sym c.inconsistency.ensures ∙ c.in-Some.is) in
    simp (k.0, lt-ltb _ _ k.1)

pub parts_len-requires : goal.parts_len-requires
parts_len-requires c =
    let p = c.to_plain-plain.ensures.plain in
    subst Counted (sym (ap (λ (p : Plain). p.bytes) p)) (counted_of c.args.r)

pub returns-then-need-gt4096 : goal.returns-then-need-gt4096
unfolding length_told encoded_length
returns-then-need-gt4096 c =
    let i = placed-none _ (sym c.inconsistency.ensures ∙ c.in_default.is) in
    let t = length c.args.reserved_tail.now in
    let p = c.parts_len in
    let s = p.ensures.size c.to_plain-plain.result.numbers ∙ ap (λ (r : S2Xv2SatelliteDeliverySystem). sizes (parts_of r)) c.to_plain-plain.ensures.back in
    let e = ap (λ (k : ℕ). p.result + k) c.tail_len.ensures in
    let h : 4096 < p.result + t = omega (arith, e, c.if-need-gt4096.true) in
    simp (i, sym s, lt-ltb _ _ h)
    (ap (λ (n : ℕ). 2 ∷ n ∷ []) (c.saturated.ensures ∙ ap saturated e ∙ capped_same p.result t))

pub returns : goal.returns
unfolding length_told encoded_length
returns c =
    let i = placed-none _ (sym c.inconsistency.ensures ∙ c.in_default.is) in
    let t = length c.args.reserved_tail.now in
    let p = c.parts_len in
    let k = c.tail_len in
    let s = p.ensures.size c.to_plain-plain.result.numbers ∙ ap (λ (r : S2Xv2SatelliteDeliverySystem). sizes (parts_of r)) c.to_plain-plain.ensures.back in
    let e : p.result + k.result ≡ p.result + t = omega (arith, k.ensures, c.if-need-gt4096.false) in
    let h : p.result + t ≤ 4096 = omega (arith, e, c.if-need-gt4096.false) in
    simp (i, sym s, le-ltb _ _ h) (ap (λ (n : ℕ). 0 ∷ n ∷ []) e)
