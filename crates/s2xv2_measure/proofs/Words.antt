-- Laws of four bytes as one word: words that are equal have equal bytes (`same`), a word that has no bit in common with a mask has no byte that has one
-- (`apart`), and a byte without the upper bits is small (`below`). So three words tell what is there (`agreed`).
-- Assumes nothing.
use mathlib.Core.Path.{◌≡◌, sym, ◌∙◌}
use Prim.Native.Nat.{ℕ, ◌+◌, ◌*◌, ◌-◌, ◌/◌, ◌^◌, ◌<◌}
use native.Mathlib.Omega.{arith}
use native.Mathlib.Nat.{mod-eq_of_lt}
use lib.Bits.{bit_and, and_block, and_high}
use mathlib.Core.List.{List}
use lib.ListN.{get_or}
use Rattle.wire.proofs.Flags.{bit-small}
use Rattle.s2xv2.specs.Table144c.{mode_of, has_selector, has_timeslice}
use Rattle.s2xv2_plain.proofs.Reserved.{reserved-small}
use Rattle.s2xv2_measure.specs.Quick.{word_of, Word, WordAt, asked_of, Agrees}

pub record Four (P Q R S : Type 0) : Type 0 where
  pub first : P
  pub second : Q
  pub third : R
  pub fourth : S

lowest : (hi lo mh ml : ℕ) → lo < 256 → ml < 256 → bit_and (hi * 256 + lo) (mh * 256 + ml) ≡ 0 → (bit_and hi mh ≡ 0) × (bit_and lo ml ≡ 0)
lowest hi lo mh ml h m e = let s = sym (and_block 8 hi mh lo ml h m) ∙ e in (omega (arith, s), omega (arith, s))

pub below : (j k n : ℕ) → n / 2 ^ k < 2 ^ j → bit_and n (2 ^ (j + k) - 2 ^ k) ≡ 0 → n / 2 ^ k * 2 ^ k ≡ 0
below j k n h e = rw (mod-eq_of_lt h) at (sym (and_high n j k) ∙ e)

module _ {a b c d r : ℕ} (f : Word a b c d r) where
  pub apart : (ma mb mc md : ℕ) → ma < 256 → mb < 256 → mc < 256 → bit_and r (word_of ma mb mc md) ≡ 0
      → Four (bit_and a ma ≡ 0) (bit_and b mb ≡ 0) (bit_and c mc ≡ 0) (bit_and d md ≡ 0)
  apart ma mb mc md ka kb kc e =
      let p = lowest ((d * 256 + c) * 256 + b) a ((md * 256 + mc) * 256 + mb) ma f.first ka (rw f.word at e) in
      let q = lowest (d * 256 + c) b (md * 256 + mc) mb f.second kb p.0 in
      let r = lowest d c md mc f.third kc q.0 in
      record { first = p.1; second = q.1; third = r.1; fourth = r.0 }

  same : (x y z w : ℕ) → x < 256 → y < 256 → z < 256 → r ≡ word_of x y z w → Four (a ≡ x) (b ≡ y) (c ≡ z) (d ≡ w)
  same x y z w hx hy hz e =
      let ha = f.first in
      let hb = f.second in
      let hc = f.third in
      let q : word_of a b c d ≡ word_of x y z w = sym f.word ∙ e in
      record { first = omega arith; second = omega arith; third = omega arith; fourth = omega arith }

-- ---- what is there

pub bit_below : (n : ℕ) → n < 256 → bit_and n 254 ≡ 0 → n < 2
bit_below n h e = omega (arith, below 7 1 n (omega arith) e)

pub agreed : (bs : List ℕ) {r t k : ℕ} → WordAt bs 0 r → WordAt bs 4 t → WordAt bs 8 k → r ≡ t → bit_and r (word_of 254 254 254 254) ≡ 0
    → k ≡ asked_of (mode_of (get_or bs 20 0)) → Agrees bs
agreed bs said there parts e z a =
    let m = mode_of (get_or bs 20 0) in
    let s = same said _ _ _ _ there.first there.second there.third (e ∙ there.word) in
    let o = apart said 254 254 254 254 (omega arith) (omega arith) (omega arith) z in
    let hr = reserved-small m in
    let hs = bit-small (has_selector m) in
    let ht = bit-small (has_timeslice m) in
    let p = same parts _ _ _ _ (omega (arith, hr)) (omega (arith, hs)) (omega (arith, ht)) a in
    record {
      stream = s.first;
      index = s.second;
      sffi = s.third;
      plan = s.fourth;
      bits = (
        bit_below _ said.first o.first,
        bit_below _ said.second o.second,
        bit_below _ said.third o.third,
        bit_below _ said.fourth o.fourth,
      );
      reserved = p.first;
      selector = p.second;
      timeslice = p.third;
      superframe = p.fourth;
    }
