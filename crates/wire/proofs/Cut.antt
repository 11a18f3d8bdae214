-- The two laws of a part of the wire, over any list of widths that fills whole bytes: cutting what was packed gives the values back
-- (`cut-pack`), and packing what was cut gives the bytes back (`pack-cut`).
-- Assumes nothing.
use mathlib.Core.Path.{◌≡◌, refl, sym, ap, ap₂, ◌∙◌, subst}
use mathlib.Core.List.{List, [], ◌∷◌, ◌++◌, append_assoc, append-nil}
use mathlib.Core.Bool.{Bool, true, false}
use Prim.Native.Nat.{ℕ, zero, suc, ◌+◌, ◌-◌, ◌*◌, ◌/◌, ◌%◌, ◌^◌, ◌≤◌, ◌<◌}
use native.Mathlib.Nat.{zero-add, add-zero, add_assoc, zero-mul, add-mul, mul_assoc, mul_comm, mod-one, mod-eq_of_lt, mod-lt, pow-suc, mul-le-mul_right, mul-add-div_right, div-div-eq-div-mul, mul-add-mod_self_right, add-suc}
use native.Mathlib.Omega.{arith}
use lib.Pow.{pow-add, pow_pos, mod-pow-add, high, low, shr-shr}
use lib.ListN.{length, get_or, take, drop, length-append, length-drop}
use lib.Seq.{get_or-drop, get_or_at, take-suc}
use lib.Dec.{eqb}
use borrow.Author.Tests.{eqb-true, eqb-false}
use Rattle.wire.specs.Flags.{when}
use Rattle.wire.specs.Bits.{at, number, span, bits}
use Rattle.wire.specs.Widths.{total, size, cut_from, cut, be, beside, pack_from, pack, Fit, Bytes}

-- ---- the bytes of a number

at-add : (a k : ℕ) → at a k ≡ a + k
at-add a zero = sym (add-zero a)
at-add a (suc k) = refl

pow8 : (n : ℕ) → 256 ^ n ≡ 2 ^ (n * 8)
pow8 zero = refl
pow8 (suc n) =
    let e : suc n * 8 ≡ n * 8 + 8 = omega arith in
    pow-suc 256 n ∙ ap (λ (k : ℕ). k * 256) (pow8 n) ∙ sym (rw e (pow-add 2 (n * 8) 8))

pow8-suc : (n : ℕ) → 2 ^ (suc n * 8) ≡ 2 ^ (n * 8) * 256
pow8-suc n = let e : suc n * 8 ≡ n * 8 + 8 = omega arith in rw e (pow-add 2 (n * 8) 8)

be-suc : (n v : ℕ) → be (suc n) v ≡ v / 256 ^ n % 256 ∷ be n v
be-suc zero v = let e : v % 256 ≡ v / 1 % 256 = omega arith in ap (λ (k : ℕ). k ∷ []) e
be-suc (suc n) v = refl

-- the last byte split off
be-last : (n v : ℕ) → be (suc n) v ≡ be n (v / 256) ++ (v % 256 ∷ [])
be-last zero v = refl
be-last (suc n) v =
    let e : v / 256 ^ suc n ≡ v / 256 / 256 ^ n = ap (λ (k : ℕ). v / k) (pow-suc 256 n ∙ mul_comm (256 ^ n) 256) ∙ sym (div-div-eq-div-mul v 256 (256 ^ n)) in
    ap₂ (λ (k : ℕ) (l : List ℕ). k % 256 ∷ l) e (be-last n v) ∙ ap (λ (l : List ℕ). l ++ (v % 256 ∷ [])) (sym (be-suc n (v / 256)))

pub length-be : (n v : ℕ) → length (be n v) ≡ n
length-be zero v = refl
length-be (suc n) v = ap length (be-suc n v) ∙ ap suc (length-be n v)

bytes-cons : (v : ℕ) (l : List ℕ) → v < 256 → Bytes l → Bytes (v ∷ l)
bytes-cons v l h b zero = h
bytes-cons v l h b (suc i) = b i

pub bytes-append : (a l : List ℕ) → Bytes a → Bytes l → Bytes (a ++ l)
bytes-append [] l h b = b
bytes-append (v ∷ a) l h b = bytes-cons v (a ++ l) (h 0) (bytes-append a l (λ (i : ℕ). h (suc i)) b)

pub bytes-nil : Bytes []
bytes-nil i = omega arith

bytes-be : (n v : ℕ) → Bytes (be n v)
bytes-be zero v = bytes-nil
bytes-be (suc n) v = subst Bytes (sym (be-suc n v)) (bytes-cons (v / 256 ^ n % 256) (be n v) (omega arith) (bytes-be n v))

below : (x b : ℕ) → b < x * 256 → b / 256 < x
below x b h = omega arith

-- two numbers of bytes side by side
be-append : (m n a b : ℕ) → b < 2 ^ (n * 8) → be (m + n) (a * 2 ^ (n * 8) + b) ≡ be m a ++ be n b
be-append m zero a b h =
    let e : a * 2 ^ (0 * 8) + b ≡ a = omega arith in
    ap₂ be (add-zero m) e ∙ sym (append-nil (be m a))
be-append m (suc n) a b h =
    let p : 2 ^ (suc n * 8) ≡ 2 ^ (n * 8) * 256 = pow8-suc n in
    let q : a * 2 ^ (suc n * 8) ≡ a * 2 ^ (n * 8) * 256 = ap (λ (k : ℕ). a * k) p ∙ sym (mul_assoc a (2 ^ (n * 8)) 256) in
    let e₁ : (a * 2 ^ (suc n * 8) + b) / 256 ≡ a * 2 ^ (n * 8) + b / 256 = rw q (tail₁ (a * 2 ^ (n * 8)) b) in
    let e₂ : (a * 2 ^ (suc n * 8) + b) % 256 ≡ b % 256 = rw q (tail₂ (a * 2 ^ (n * 8)) b) in
    let h' : b < 2 ^ (n * 8) * 256 = rw p at h in
    ap (λ (k : ℕ). be k (a * 2 ^ (suc n * 8) + b)) (add-suc m n)
    ∙ be-last (m + n) (a * 2 ^ (suc n * 8) + b)
    ∙ ap₂ (λ (k l : ℕ). be (m + n) k ++ (l ∷ [])) e₁ e₂
    ∙ ap (λ (l : List ℕ). l ++ (b % 256 ∷ [])) (be-append m n a (b / 256) (below (2 ^ (n * 8)) b h'))
    ∙ append_assoc (be m a) (be n (b / 256)) (b % 256 ∷ [])
    ∙ ap (λ (l : List ℕ). be m a ++ l) (sym (be-last n b))
  where
    tail₁ : (x b : ℕ) → (x * 256 + b) / 256 ≡ x + b / 256
    tail₁ x b = omega arith

    tail₂ : (x b : ℕ) → (x * 256 + b) % 256 ≡ b % 256
    tail₂ x b = omega arith

-- ---- the number that bytes make

number-suc : (s : List ℕ) (a n : ℕ) → number s a (suc n) ≡ number s a n * 256 + get_or s (a + n) 0
number-suc s a zero = rw (add-zero a) (omega arith)
number-suc s a (suc n) = refl

number-add : (s : List ℕ) (a k m : ℕ) → number s a (k + m) ≡ number s a k * 2 ^ (m * 8) + number s (a + k) m
number-add s a k zero = ap (number s a) (add-zero k) ∙ omega arith
number-add s a k (suc m) =
    let q : number s a k * 2 ^ (suc m * 8) ≡ number s a k * 2 ^ (m * 8) * 256 = ap (λ (x : ℕ). number s a k * x) (pow8-suc m) ∙ sym (mul_assoc (number s a k) (2 ^ (m * 8)) 256) in
    ap (number s a) (add-suc k m)
    ∙ number-suc s a (k + m)
    ∙ rw (number-add s a k m, q, number-suc s (a + k) m, add_assoc a k m) (step (number s a k * 2 ^ (m * 8)) (number s (a + k) m) (get_or s (a + (k + m)) 0))
  where
    step : (x y z : ℕ) → (x + y) * 256 + z ≡ x * 256 + (y * 256 + z)
    step x y z = omega arith

number_lt : (s : List ℕ) (a n : ℕ) → Bytes s → number s a n < 2 ^ (n * 8)
number_lt s a zero b = omega arith
number_lt s a (suc n) b = rw (number-suc s a n, pow8-suc n) (step (number s a n) (2 ^ (n * 8)) (get_or s (a + n) 0) (number_lt s a n b) (b (a + n)))
  where
    step : (x p y : ℕ) → x < p → y < 256 → x * 256 + y < p * 256
    step x p y h k = omega arith

number-drop : (s : List ℕ) (p n : ℕ) → number s p n ≡ number (drop p s) 0 n
number-drop s p zero = refl
number-drop s p (suc n) = rw (number-suc s p n, number-suc (drop p s) 0 n, number-drop s p n, zero-add, get_or-drop)

number-be : (n v : ℕ) (l : List ℕ) → v < 2 ^ (n * 8) → number (be n v ++ l) 0 n ≡ v
number-be zero v l h = omega arith
number-be (suc n) v l h =
    let e : be (suc n) v ++ l ≡ be n (v / 256) ++ v % 256 ∷ l = ap (λ (k : List ℕ). k ++ l) (be-last n v) ∙ append_assoc (be n (v / 256)) (v % 256 ∷ []) l in
    let p : 2 ^ (suc n * 8) ≡ 2 ^ (n * 8) * 256 = pow8-suc n in
    let h' : v < 2 ^ (n * 8) * 256 = rw p at h in
    ap (λ (k : List ℕ). number k 0 (suc n)) e
    ∙ (number-suc (be n (v / 256) ++ v % 256 ∷ l) 0 n
    ∙ rw (number-be n (v / 256) (v % 256 ∷ l) (below (2 ^ (n * 8)) v h'), zero-add n, get_or_at (be n (v / 256)) (v % 256) l 0 n (length-be n (v / 256))) (omega arith))

be-number : (s : List ℕ) (a n : ℕ) → Bytes s → a + n ≤ length s → be n (number s a n) ≡ take n (drop a s)
be-number s a zero b h = refl
be-number s a (suc n) b h =
    let i : n < length (drop a s) = omega (arith, length-drop a s) in
    let e : number s a (suc n) ≡ number s a n * 256 + get_or s (a + n) 0 = number-suc s a n in
    let d : (number s a n * 256 + get_or s (a + n) 0) / 256 ≡ number s a n = omega (arith, b (a + n)) in
    let m : (number s a n * 256 + get_or s (a + n) 0) % 256 ≡ get_or s (a + n) 0 = omega (arith, b (a + n)) in
    rw (take-suc (drop a s) n 0 i, get_or-drop, e) (be-last n (number s a n * 256 + get_or s (a + n) 0) ∙ rw (d, m) (ap (λ (l : List ℕ). l ++ (get_or s (a + n) 0 ∷ [])) (be-number s a n b (omega arith))))

-- ---- a field may be cut out of the bytes that it touches, or out of all bytes of its part

inner : (x y e w c : ℕ) → (x * 2 ^ (e + (w + c)) + y) / 2 ^ e % 2 ^ w ≡ y / 2 ^ e % 2 ^ w
inner x y e w c =
    let p : x * 2 ^ (e + (w + c)) ≡ x * 2 ^ c * 2 ^ w * 2 ^ e = ap (λ (k : ℕ). x * k) (pow-add 2 e (w + c) ∙ ap (λ (k : ℕ). 2 ^ e * k) (pow-add 2 w c)) ∙ turn x (2 ^ e) (2 ^ w) (2 ^ c) in
    rw (p, mul-add-div_right (pow_pos e) (x * 2 ^ c * 2 ^ w) y) (mul-add-mod_self_right (x * 2 ^ c) (2 ^ w) (y / 2 ^ e))
  where
    turn : (x e w c : ℕ) → x * (e * (w * c)) ≡ x * c * w * e
    turn x e w c = omega arith

bits_in : (s : List ℕ) (a o w n : ℕ) → Bytes s → o + w ≤ n * 8 → bits s a o w ≡ number s a n / 2 ^ (n * 8 - (o + w)) % 2 ^ w
bits_in s a o w n b h = go (o / 8) (o % 8) (span o w) (n - (o / 8 + span o w)) (span o w * 8 - (o % 8 + w)) (omega arith) (omega arith) (omega arith)
  where
    go : (k r m j e : ℕ) → n ≡ (k + m) + j → n * 8 - (o + w) ≡ j * 8 + e → m * 8 ≡ e + (w + r)
        → number s (at a k) m / 2 ^ e % 2 ^ w ≡ number s a n / 2 ^ (n * 8 - (o + w)) % 2 ^ w
    go k r m j e e₁ e₂ e₃ =
        let f : number s a n / 2 ^ (j * 8) ≡ number s a (k + m) = rw (e₁, number-add s a (k + m) j) (high (number s a (k + m)) (j * 8) (number_lt s (a + (k + m)) j b)) in
        let g : number s a (k + m) ≡ number s a k * 2 ^ (e + (w + r)) + number s (a + k) m = rw (← e₃) (number-add s a k m) in
        rw (at-add a k, e₂, ← shr-shr (number s a n) (j * 8) e, f, g) (sym (inner (number s a k) (number s (a + k) m) e w r))

-- ---- so a part is cut out of one number

-- the fields of n at the widths ws, the first the highest
cut_up : List ℕ → ℕ → List ℕ
cut_up [] n = []
cut_up (w ∷ ws) n = n / 2 ^ total ws % 2 ^ w ∷ cut_up ws n

cut-whole : (s : List ℕ) (a o n : ℕ) (ws : List ℕ) → Bytes s → o + total ws ≡ n * 8 → cut_from s a o ws ≡ cut_up ws (number s a n)
unfolding cut_up
cut-whole s a o n [] b h = refl
cut-whole s a o n (w ∷ ws) b h =
    let e : n * 8 - (o + w) ≡ total ws = omega arith in
    ap₂ ◌∷◌ (rw (← e) (bits_in s a o w n b (omega arith))) (cut-whole s a (o + w) n ws b (omega arith))

-- the values one after the other as one number, behind the number n
behind : ℕ → List ℕ → List ℕ → ℕ
behind n [] vs = n
behind n (w ∷ ws) vs = behind (n * 2 ^ w + get_or vs 0 0) ws (drop 1 vs)

beside-lt : (k n w v : ℕ) → n < 2 ^ k → v < 2 ^ w → n * 2 ^ w + v < 2 ^ (k + w)
beside-lt k n w v h f = rw (pow-add 2 k w) (step n (2 ^ k) (2 ^ w) v h f)
  where
    step : (n p q v : ℕ) → n < p → v < q → n * q + v < p * q
    step n p q v h f = omega (arith, mul-le-mul_right q h)

behind-lt : (k n : ℕ) (ws vs : List ℕ) → n < 2 ^ k → Fit ws vs → behind n ws vs < 2 ^ (k + total ws)
unfolding behind
behind-lt k n [] [] h f = rw (add-zero k) h
behind-lt k n [] (v ∷ vs) h f = absurd f
behind-lt k n (w ∷ ws) [] h f = absurd f
behind-lt k n (w ∷ ws) (v ∷ vs) h f = rw (← add_assoc k w (total ws)) (behind-lt (k + w) (n * 2 ^ w + v) ws vs (beside-lt k n w v h f.0) f.1)

behind-add : (n : ℕ) (ws vs : List ℕ) → behind n ws vs ≡ n * 2 ^ total ws + behind 0 ws vs
unfolding behind
behind-add n [] vs = omega arith
behind-add n (w ∷ ws) vs =
    behind-add (n * 2 ^ w + get_or vs 0 0) ws (drop 1 vs)
    ∙ rw (pow-add 2 w (total ws), behind-add (0 * 2 ^ w + get_or vs 0 0) ws (drop 1 vs)) (step n (2 ^ w) (2 ^ total ws) (get_or vs 0 0) (behind 0 ws (drop 1 vs)))
  where
    step : (n p q v b : ℕ) → (n * p + v) * q + b ≡ n * (p * q) + ((0 * p + v) * q + b)
    step n p q v b = omega arith

-- cut out of what was put together: the values
cut-behind : (n : ℕ) (ws vs : List ℕ) → Fit ws vs → cut_up ws (behind n ws vs) ≡ vs
unfolding cut_up behind
cut-behind n [] [] f = refl
cut-behind n [] (v ∷ vs) f = absurd f
cut-behind n (w ∷ ws) [] f = absurd f
cut-behind n (w ∷ ws) (v ∷ vs) f =
    let b : behind 0 ws vs < 2 ^ total ws = rw (zero-add (total ws)) at (behind-lt 0 0 ws vs (omega arith) f.1) in
    let e : behind (n * 2 ^ w + v) ws vs / 2 ^ total ws % 2 ^ w ≡ v = rw (behind-add (n * 2 ^ w + v) ws vs, high (n * 2 ^ w + v) (total ws) b) (low n w f.0) in
    ap₂ ◌∷◌ e (cut-behind (n * 2 ^ w + v) ws vs f.1)

-- put together what was cut out: the number
behind-cut : (k n : ℕ) (ws : List ℕ) → behind k ws (cut_up ws n) ≡ k * 2 ^ total ws + n % 2 ^ total ws
unfolding cut_up behind
behind-cut k n [] = omega (arith, mod-one n)
behind-cut k n (w ∷ ws) =
    behind-cut (k * 2 ^ w + n / 2 ^ total ws % 2 ^ w) n ws
    ∙ rw (mod-pow-add n w (total ws), pow-add 2 w (total ws), add-mul, mul_assoc, add_assoc)

cut_fits : (n : ℕ) (ws : List ℕ) → Fit ws (cut_up ws n)
unfolding cut_up
cut_fits n [] = tt
cut_fits n (w ∷ ws) = (mod-lt (n / 2 ^ total ws) (pow_pos w), cut_fits n ws)

-- ---- what is written byte by byte is that number's bytes

beside-is : (k n w v : ℕ) → n < 2 ^ k → beside k n w v ≡ n * 2 ^ w + v
beside-is zero n w v h = let e : n ≡ 0 = omega arith in rw (e, zero-mul) (sym (zero-add v))
beside-is (suc k) n w v h = refl

-- after a field, k bits that hold n: either whole bytes, or more to come
pack-next : (k n m : ℕ) (ws vs : List ℕ) → Fit ws vs → k + total ws ≡ m * 8 → (t : Bool) → (t ≡ true → k % 8 ≡ 0) → (t ≡ false → k % 8 ≡ 0 → ⊥)
    → ((j : ℕ) → total ws ≡ j * 8 → pack_from 0 0 ws vs ≡ be j (behind 0 ws vs))
    → ((k % 8 ≡ 0 → k ≡ 0) → pack_from k n ws vs ≡ be m (behind n ws vs))
    → when t (be (k / 8) n ++ pack_from 0 0 ws vs) (pack_from k n ws vs) ≡ be m (behind n ws vs)
pack-next k n m ws vs f e true y g whole more = joined (k / 8) (m - k / 8) (omega (arith, y refl)) (omega (arith, y refl))
  where
    joined : (i j : ℕ) → total ws ≡ j * 8 → m ≡ i + j → be i n ++ pack_from 0 0 ws vs ≡ be m (behind n ws vs)
    joined i j e₁ e₂ =
        let b : behind 0 ws vs < 2 ^ (j * 8) = rw (zero-add (total ws), e₁) at (behind-lt 0 0 ws vs (omega arith) f) in
        rw (whole j e₁, behind-add n ws vs, e₁, e₂) (sym (be-append i j n (behind 0 ws vs) b))
pack-next k n m ws vs f e false y g whole more = more (λ (q : k % 8 ≡ 0). absurd (g refl q))

pack-is : (k n m : ℕ) (ws vs : List ℕ) → n < 2 ^ k → (k % 8 ≡ 0 → k ≡ 0) → Fit ws vs → k + total ws ≡ m * 8 → pack_from k n ws vs ≡ be m (behind n ws vs)
unfolding behind
pack-is k n m [] [] h z f e = let e₀ : m ≡ 0 = omega (arith, z (omega arith)) in rw e₀
pack-is k n m [] (v ∷ vs) h z f e = absurd f
pack-is k n m (w ∷ ws) [] h z f e = absurd f
pack-is k n m (w ∷ ws) (v ∷ vs) h z f e =
    rw (beside-is k n w v h)
    (pack-next (k + w) (n * 2 ^ w + v) m ws vs f.1 (omega arith) (eqb ((k + w) % 8) 0) (eqb-true ((k + w) % 8) 0) (eqb-false ((k + w) % 8) 0)
    (λ (j : ℕ) (d : total ws ≡ j * 8). pack-is 0 0 j ws vs (omega arith) (λ (_ : 0 % 8 ≡ 0). refl) f.1 (omega arith))
    (λ (y : (k + w) % 8 ≡ 0 → k + w ≡ 0). pack-is (k + w) (n * 2 ^ w + v) m ws vs (beside-lt k n w v h f.0) y f.1 (omega arith)))

-- ---- the laws

-- how many bytes a part takes, whatever the values
length-next : (k n m : ℕ) (ws vs : List ℕ) → k + total ws ≡ m * 8 → (t : Bool) → (t ≡ true → k % 8 ≡ 0) → (t ≡ false → k % 8 ≡ 0 → ⊥)
    → ((j : ℕ) → total ws ≡ j * 8 → length (pack_from 0 0 ws vs) ≡ j)
    → ((k % 8 ≡ 0 → k ≡ 0) → length (pack_from k n ws vs) ≡ m)
    → length (when t (be (k / 8) n ++ pack_from 0 0 ws vs) (pack_from k n ws vs)) ≡ m
length-next k n m ws vs e true y g whole more =
    length-append (be (k / 8) n) (pack_from 0 0 ws vs)
    ∙ rw (length-be (k / 8) n, whole (m - k / 8) (omega (arith, y refl))) (omega (arith, y refl))
length-next k n m ws vs e false y g whole more = more (λ (q : k % 8 ≡ 0). absurd (g refl q))

length_from : (k n m : ℕ) (ws vs : List ℕ) → (k % 8 ≡ 0 → k ≡ 0) → k + total ws ≡ m * 8 → length (pack_from k n ws vs) ≡ m
length_from k n m [] vs z e = omega (arith, z (omega arith))
length_from k n m (w ∷ ws) vs z e =
    length-next (k + w) (beside k n w (get_or vs 0 0)) m ws (drop 1 vs) (omega arith) (eqb ((k + w) % 8) 0) (eqb-true ((k + w) % 8) 0) (eqb-false ((k + w) % 8) 0)
    (λ (j : ℕ) (d : total ws ≡ j * 8). length_from 0 0 j ws (drop 1 vs) (λ (_ : 0 % 8 ≡ 0). refl) (omega arith))
    (λ (y : (k + w) % 8 ≡ 0 → k + w ≡ 0). length_from (k + w) (beside k n w (get_or vs 0 0)) m ws (drop 1 vs) y (omega arith))

pub length-pack : (ws vs : List ℕ) → total ws % 8 ≡ 0 → length (pack ws vs) ≡ size ws
length-pack ws vs e = length_from 0 0 (size ws) ws vs (λ (_ : 0 % 8 ≡ 0). refl) (omega arith)

whole-bytes : (ws : List ℕ) → total ws % 8 ≡ 0 → 0 + total ws ≡ size ws * 8
whole-bytes ws e = omega arith

pack-be : (ws vs : List ℕ) → total ws % 8 ≡ 0 → Fit ws vs → pack ws vs ≡ be (size ws) (behind 0 ws vs)
pack-be ws vs e f = pack-is 0 0 (size ws) ws vs (omega arith) (λ (_ : 0 % 8 ≡ 0). refl) f (whole-bytes ws e)

-- CUTTING WHAT WAS PACKED: where the values stand packed at p of s, they are what is cut there
pub cut-pack : (s : List ℕ) (p : ℕ) (ws vs l : List ℕ) → total ws % 8 ≡ 0 → Fit ws vs → Bytes s → drop p s ≡ pack ws vs ++ l → cut s p ws ≡ vs
cut-pack s p ws vs l e f b h =
    let lt : behind 0 ws vs < 2 ^ (size ws * 8) = rw (whole-bytes ws e) at (behind-lt 0 0 ws vs (omega arith) f) in
    cut-whole s p 0 (size ws) ws b (whole-bytes ws e)
    ∙ ap (cut_up ws) (number-drop s p (size ws) ∙ rw (h, pack-be ws vs e f) (number-be (size ws) (behind 0 ws vs) l lt))
    ∙ cut-behind 0 ws vs f

-- PACKING WHAT WAS CUT gives the bytes
pub pack-cut : (s : List ℕ) (p : ℕ) (ws : List ℕ) → total ws % 8 ≡ 0 → Bytes s → p + size ws ≤ length s → pack ws (cut s p ws) ≡ take (size ws) (drop p s)
pack-cut s p ws e b h =
    let n = number s p (size ws) in
    let lt : n < 2 ^ total ws = subst (λ (k : ℕ). number s p (size ws) < 2 ^ k) (sym (whole-bytes ws e) ∙ zero-add (total ws)) (number_lt s p (size ws) b) in
    rw (cut-whole s p 0 (size ws) ws b (whole-bytes ws e))
    (pack-be ws (cut_up ws n) e (cut_fits n ws)
    ∙ ap (be (size ws)) (behind-cut 0 n ws ∙ rw (zero-mul, zero-add) (mod-eq_of_lt lt))
    ∙ be-number s p (size ws) b h)

-- what was cut fits its widths
pub fit_cut : (s : List ℕ) (p : ℕ) (ws : List ℕ) → total ws % 8 ≡ 0 → Bytes s → Fit ws (cut s p ws)
fit_cut s p ws e b = rw (cut-whole s p 0 (size ws) ws b (whole-bytes ws e)) (cut_fits (number s p (size ws)) ws)

-- what was packed is bytes
pub bytes-pack : (ws vs : List ℕ) → total ws % 8 ≡ 0 → Fit ws vs → Bytes (pack ws vs)
bytes-pack ws vs e f = rw (pack-be ws vs e f) (bytes-be (size ws) (behind 0 ws vs))
