-- Laws of the quick tests: what passes them is what no test of list A (`consistent`) and of list B (`carried`) refuses, with flags that are bits
-- (`counted`) and at most two bonds (`few-bonds`). The laws before them say so of each part.
-- Assumes nothing.
use mathlib.Core.Path.{◌≡◌, refl, sym, ap, ◌∙◌}
use mathlib.Core.Bool.{Bool, true, false, ◌&&◌}
use mathlib.Core.List.{List, [], ◌∷◌, ◌++◌}
use Prim.Native.Nat.{ℕ, zero, suc, ◌≤◌, ◌<◌}
use native.Mathlib.Omega.{arith}
use lib.Dec.{eqb, ltb, leb}
use lib.ListN.{get_or, drop}
use borrow.Author.Tests.{ltb-true, lt-leb, eq-eqb}
use lib.Bits.{bit_and}
use Rattle.wire.specs.Flags.{and, not, differ}
use Rattle.wire.proofs.Flags.{never, bit-small}
use Rattle.wire.proofs.Wide.{narrow}
use Rattle.wire.specs.Count.{less_one}
use Rattle.wire.specs.Widths.{wide}
use Rattle.answers.proofs.Tests.{Clear}
use Rattle.s2xv2.specs.Table144c.{mode_of, has_selector, has_timeslice, has_superframe}
use Rattle.s2xv2.specs.ListA.{misnamed, superframe_a, list_a}
use Rattle.s2xv2.specs.ListB.{core_b, scrambling_b, bond_b, superframe_b, list_b}
use Rattle.s2xv2.proofs.Modes.{mode-named}
use Rattle.s2xv2_plain.specs.Input.{is_set, block_in, meant}
use Rattle.s2xv2_plain.proofs.Back.{set-bit, is-there}
use Rattle.s2xv2_measure.specs.Quick.{word_of, WordAt, Agrees, Counted}
use Rattle.s2xv2_measure.proofs.Words.{apart, below, bit_below}
use Rattle.s2xv2_measure.proofs.Meant.{mode-same, code_in}
use Rattle.std.specs.Prelude.{is_some}
use Rattle.std.specs.Option.{unwrap_or}
use Rattle.std.specs.Bool.{then_some}

pub both_hold : (a b : Bool) → (a && b) ≡ true → (a ≡ true) × (b ≡ true)
both_hold true b e = (refl, e)
both_hold false b e = never e

-- a number that passes a test of its bound is not wide
pub fits : (n v : ℕ) → ltb v n ≡ true → leb n v ≡ false
fits n v e = lt-leb n v (ltb-true v n e)

-- ---- tests that fail

differ_of : (a b : Bool) → a ≡ b → differ a b ≡ false
differ_of true true e = refl
differ_of true false e = never (sym e)
differ_of false true e = never e
differ_of false false e = refl

and-not : (a b : Bool) → a ≡ b → and a (not b) ≡ false
and-not true true e = refl
and-not true false e = never (sym e)
and-not false b e = refl

clear-append : (ts us : List Bool) → Clear ts → Clear us → Clear (ts ++ us)
clear-append [] us h k = k
clear-append (t ∷ ts) us h k = (h.0, clear-append ts us h.1 k)

-- ---- the parts

-- a bit reserved in the selector's place
top-clear : (t : Bool) (v : ℕ) → v < 2 → and (not t) (wide 1 v) ≡ false
top-clear true v h = refl
top-clear false v h = lt-leb 2 v h

-- a selector that is set, and that is there only if so, with its index
stray-clear : (s h t : Bool) (v : ℕ) → s ≡ t → and s (not h) ≡ false → and (is_some (then_some t v)) (not (unwrap_or (then_some h s) false)) ≡ false
stray-clear true true t v d e = and-not _ true (is-there t v ∙ sym d)
stray-clear true false t v d e = never (sym e)
stray-clear false h true v d e = never d
stray-clear false h false v d e = refl

index-clear : (s h t : Bool) (v r : ℕ) → s ≡ t → Clear (and s (not h) ∷ and s (wide 18 v) ∷ and s (wide 6 r) ∷ [])
    → Clear (
    and (unwrap_or (then_some h s) false) (not (is_some (then_some t v)))
    ∷ and (unwrap_or (then_some h s) false) (wide 18 (unwrap_or (then_some t v) 0))
    ∷ and (unwrap_or (then_some h s) false) (wide 6 r)
    ∷ [])
index-clear true true true v r d c = (refl, c.1)
index-clear true true false v r d c = never (sym d)
index-clear true false t v r d c = never (sym c.0)
index-clear false true t v r d c = (refl, (refl, (refl, tt)))
index-clear false false t v r d c = (refl, (refl, (refl, tt)))

pub core-clear : (ws bs : List ℕ) {r s t : ℕ} → WordAt bs 12 r → WordAt bs 16 s → WordAt bs 20 t
    → bit_and r (word_of 252 254 254 252) ≡ 0 → bit_and s (word_of 252 224 254 252) ≡ 0 → bit_and t (word_of 240 248 0 0) ≡ 0 → get_or ws 1 0 < 16777216
    → Clear (core_b (meant ws bs)) × ((get_or bs 13 0 < 2) × (get_or bs 14 0 < 2))
core-clear ws bs f5 f6 f4 e5 e6 e4 h =
    let p5 = apart f5 252 254 254 252 (omega arith) (omega arith) (omega arith) e5 in
    let p6 = apart f6 252 224 254 252 (omega arith) (omega arith) (omega arith) e6 in
    let p4 = apart f4 240 248 0 0 (omega arith) (omega arith) (omega arith) e4 in
    let mode : get_or bs 20 0 < 16 = omega (arith, below 4 4 (get_or bs 20 0) (omega (arith, f4.first)) p4.first) in
    let roll : get_or bs 21 0 < 8 = omega (arith, below 5 3 (get_or bs 21 0) (omega (arith, f4.second)) p4.second) in
    let reserved : get_or bs 12 0 < 4 = omega (arith, below 6 2 (get_or bs 12 0) (omega (arith, f5.first)) p5.first) in
    let bond : get_or bs 15 0 < 4 = omega (arith, below 6 2 (get_or bs 15 0) (omega (arith, f5.fourth)) p5.fourth) in
    let polarization : get_or bs 19 0 < 4 = omega (arith, below 6 2 (get_or bs 19 0) (omega (arith, f6.fourth)) p6.fourth) in
    let tsgs : get_or bs 16 0 < 4 = omega (arith, below 6 2 (get_or bs 16 0) (omega (arith, f6.first)) p6.first) in
    let profiles : get_or bs 17 0 < 32 = omega (arith, below 3 5 (get_or bs 17 0) (omega (arith, f6.second)) p6.second) in
    let top = top-clear (is_some (meant ws bs).scrambling_sequence_selector) (get_or bs 18 0) (bit_below _ f6.third p6.third) in (
      (
        rw (code_in (get_or bs 8 0) (get_or bs 20 0)) (lt-leb 16 _ mode),
        (
          lt-leb 8 _ roll,
          (lt-leb 4 _ reserved, (lt-leb 4 _ bond, (lt-leb 4 _ polarization, (top, (lt-leb 4 _ tsgs, (lt-leb 32 _ profiles, (lt-leb 16777216 _ h, tt))))))),
        ),
      ),
      (bit_below _ f5.second p5.second, bit_below _ f5.third p5.third),
    )

-- a bit that is set only where another is
pub set_there : (s h : ℕ) → s < 2 → and (is_set s) (not (is_set h)) ≡ false → s ≤ h
set_there zero h k e = omega arith
set_there (suc zero) zero k e = never (sym e)
set_there (suc zero) (suc h) k e = omega arith
set_there (suc (suc s)) h k e = absurd (omega arith)

-- one bond or two
pub few-bonds : (bond count : ℕ) → and (eqb bond 1) (wide 1 (less_one count)) ≡ false → bond ≡ 1 → count ≤ 2
few-bonds bond zero e d = omega arith
few-bonds bond (suc count) e d = omega (arith, narrow 1 count (rw (eq-eqb bond 1 d) at e))

-- ---- the record

module _ (ws bs : List ℕ) (a : Agrees bs) where
  mode : (meant ws bs).s2xv2_mode ≡ mode_of (get_or bs 20 0)
  mode = mode-same (get_or bs 20 0) (get_or bs 8 0) a.reserved

  block : (t : Bool) → Clear (superframe_a (then_some t (block_in ws bs)))
  block true = (and-not _ _ (is-there _ _ ∙ ap is_set (sym a.sffi)), (and-not _ _ (is-there _ _ ∙ ap is_set (sym a.plan)), tt))
  block false = (refl, (refl, tt))

  pub consistent : and (is_set (get_or bs 1 0)) (not (is_set (get_or bs 9 0))) ≡ false → and (ltb 0 (get_or bs 22 0)) (not (eqb (get_or bs 15 0) 1)) ≡ false
      → Clear (list_a (meant ws bs))
  consistent s b =
      let named = ap misnamed mode ∙ mode-named (get_or bs 20 0) in
      let stream = differ_of _ _ (is-there _ _ ∙ ap is_set (sym a.stream)) in
      let selector = differ_of _ _ (is-there _ _ ∙ ap is_set a.selector ∙ set-bit _ ∙ sym (ap has_selector mode)) in
      let stray = stray-clear (is_set (get_or bs 1 0)) (is_set (get_or bs 9 0)) (is_set (get_or bs 5 0)) (get_or ws 4 0) (ap is_set a.index) s in
      let timeslice = differ_of _ _ (is-there _ _ ∙ ap is_set a.timeslice ∙ set-bit _ ∙ sym (ap has_timeslice mode)) in
      let superframe = differ_of _ _ (is-there _ _ ∙ ap is_set a.superframe ∙ set-bit _ ∙ sym (ap has_superframe mode)) in
      (named, (stream, (selector, (stray, (timeslice, (b, (superframe, block (is_set (get_or bs 11 0)))))))))

  -- each flag that is counted is a bit
  pub counted : Counted bs
  counted =
      let m = mode_of (get_or bs 20 0) in
      record {
        selector = a.bits.1;
        plan = a.bits.3;
        has_stream = omega (arith, a.stream, a.bits.0);
        has_selector = omega (arith, a.selector, bit-small (has_selector m));
        has_timeslice = omega (arith, a.timeslice, bit-small (has_timeslice m));
      }

  pub carried : Clear (core_b (meant ws bs))
      → Clear (
      and (is_set (get_or bs 1 0)) (not (is_set (get_or bs 9 0)))
      ∷ and (is_set (get_or bs 1 0)) (wide 18 (get_or ws 4 0))
      ∷ and (is_set (get_or bs 1 0)) (wide 6 (get_or bs 26 0))
      ∷ [])
      → Clear (bond_b (meant ws bs)) → Clear (superframe_b (meant ws bs).superframe) → Clear (list_b (meant ws bs))
  carried k s b f =
      let r = meant ws bs in
      let i = index-clear (is_set (get_or bs 1 0)) (is_set (get_or bs 9 0)) (is_set (get_or bs 5 0)) (get_or ws 4 0) (get_or bs 26 0) (ap is_set a.index) s in
      let end = clear-append (bond_b r) (superframe_b r.superframe) b f in
      clear-append (core_b r) (drop 9 (list_b r)) k (clear-append (scrambling_b r) (drop 12 (list_b r)) i end)
