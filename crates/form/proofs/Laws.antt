-- The laws of good form that all above it goes by, over the descriptors that cover a slot (`Good`).
-- Assumes nothing.
-- `cover` says that a stuffing descriptor over the whole slot puts it in form, with none of ours, whatever stands behind its two bytes; `retag` what
-- the form is when the first tag becomes stuffing's; `ours-there` what stands at the place of ours; `image` that a descriptor of ours with
-- stuffing behind it is in form.
use mathlib.Core.Path.{◌≡◌, refl, sym, ap, subst, ◌∙◌}
use mathlib.Core.List.{List}
use mathlib.Core.Option.{Option, none, some}
use mathlib.Core.Logic.{⊎_elim}
use Prim.Native.Nat.{ℕ, zero, suc, ◌+◌, ◌-◌, ◌≤◌, ◌<◌}
use native.Mathlib.Nat.{eq-or-lt_of_le, add-zero}
use native.Mathlib.Omega.{arith}
use lib.ListN.{length, get_or, set, length-set, length-append}
use lib.Seq.{get_or-set_other, get_or-set_same, get_or-append-add, set-get_or, take_at}
use Rattle.form.specs.Envelope.{tag, stuffing_tag, envelope, stuffing, holding}
use Rattle.form.specs.Form.{byte_at, body_at}
use Rattle.form.specs.Bytewise.{behind, Upto}
use Rattle.form.specs.Bytewise as U
use Rattle.form.proofs.Stuffing.{stuffing-length, stuffing-tag, stuffing-size}
use Rattle.form.proofs.Answers.{Good, none-some, some_same}

-- ---- a cover
pub cover : (s : List ℕ) → 21 ≤ length s → length s ≤ 257 → byte_at s 0 ≡ stuffing_tag → byte_at s 1 + 2 ≡ length s → Good s none
cover s l h t e = record { least = l; most = h; upto = U.stuffing {at = 0} {e = length s} U.start t (omega arith) (omega arith) }

-- ---- the first tag

-- where it is ours, the one of ours is there
first-ours : (s : List ℕ) (e : ℕ) (m : Option ℕ) → byte_at s 0 ≡ tag → Upto s e m → 0 < e → m ≡ some 0
first-ours s e m t U.start h = absurd (omega arith)
first-ours s e m t (U.stuffing {at = zero} u x q l) h = absurd (omega arith)
first-ours s e m t (U.stuffing {at = suc a} {m = k} u x q l) h = first-ours s (suc a) k t u (omega arith)
first-ours s e m t (U.ours {at = zero} u x y z q l) h = refl
first-ours s e m t (U.ours {at = suc a} u x y z q l) h = absurd (none-some none 0 refl (first-ours s (suc a) none t u (omega arith)))

-- where it is not, it is stuffing's
first-stuffing : (s : List ℕ) (e : ℕ) (m : Option ℕ) → Upto s e m → 0 < e → (byte_at s 0 ≡ tag → ⊥) → byte_at s 0 ≡ stuffing_tag
first-stuffing s e m U.start h n = absurd (omega arith)
first-stuffing s e m (U.stuffing {at = zero} u x q l) h n = x
first-stuffing s e m (U.stuffing {at = suc a} {m = k} u x q l) h n = first-stuffing s (suc a) k u (omega arith) n
first-stuffing s e m (U.ours {at = zero} u x y z q l) h n = absurd (n x)
first-stuffing s e m (U.ours {at = suc a} u x y z q l) h n = first-stuffing s (suc a) none u (omega arith) n

module _ (s : List ℕ) where
  abbrev s' : List ℕ
  s' = set s 0 stuffing_tag

  other : (i : ℕ) → 0 < i → byte_at s' i ≡ byte_at s i
  other i h = get_or-set_other s 0 i stuffing_tag 0 (omega arith)

  same_end : (a e : ℕ) → e ≡ behind s a → e ≡ behind s' a
  same_end a e q = let o = other (a + 1) (omega arith) in omega arith

  -- made stuffing's over ours: there is none any more
  over-ours : (e : ℕ) (m : Option ℕ) → byte_at s 0 ≡ tag → 0 < length s → Upto s e m → Upto s' e none
  over-ours e m t n U.start = U.start
  over-ours e m t n (U.stuffing {at = zero} u x q l) = absurd (omega arith)
  over-ours e m t n (U.stuffing {at = suc a} {m = k} u x q l) =
      U.stuffing {at = suc a} (over-ours (suc a) k t n u) (other (suc a) (omega arith) ∙ x) (same_end (suc a) e q) (rw length-set l)
  over-ours e m t n (U.ours {at = zero} u x y z q l) =
      U.stuffing {at = zero} U.start (get_or-set_same s 0 stuffing_tag 0 n) (same_end zero e q) (rw length-set l)
  over-ours e m t n (U.ours {at = suc a} u x y z q l) = absurd (none-some none 0 refl (first-ours s (suc a) none t u (omega arith)))

-- THE FIRST STORE: where the first tag was ours, none of ours is left; else no byte changes
pub retag : {s : List ℕ} {m : Option ℕ} → Good s m → byte_at s 0 ≡ tag → Good (set s 0 stuffing_tag) none
retag {s} {m} g t =
    record { least = rw length-set g.least; most = rw length-set g.most; upto = rw length-set (over-ours s (length s) m t (omega arith) g.upto) }

pub retag-same : {s : List ℕ} {m : Option ℕ} → Good s m → (byte_at s 0 ≡ tag → ⊥) → set s 0 stuffing_tag ≡ s
retag-same {s} {m} g t = ap (set s 0) (sym (first-stuffing s (length s) m g.upto (let n = g.least in omega arith) t)) ∙ set-get_or s 0 0

-- ---- at the place of ours: a whole descriptor with our tag, a length of 1 at least and our third byte
pub record OursAt (s : List ℕ) (a : ℕ) : Type 0 where
  pub its-length : 1 ≤ byte_at s (a + 1)
  pub its-end : behind s a ≤ length s

there : (s : List ℕ) (e a : ℕ) (m : Option ℕ) → Upto s e m → m ≡ some a → OursAt s a
there s e a m U.start q = absurd (none-some none a refl q)
there s e a m (U.stuffing {at = x} {m = k} u t f l) q = there s x a k u q
there s e a m (U.ours {at = x} u t y z f l) q =
    let w : x ≡ a = some_same x a q in
    rw (← w) (record { its-length = y; its-end = omega arith })

pub ours-there : {s : List ℕ} {a : ℕ} → Good s (some a) → OursAt s a
ours-there {s} {a} g = there s (length s) a (some a) g.upto refl

-- ---- a slot that holds a body
module _ (n : ℕ) (body : List ℕ) (l : 21 ≤ n) (h : n ≤ 257) (fits : length (envelope body) ≤ n) (gap : length (envelope body) + 1 ≡ n → ⊥) where
  holding-length : length (holding n body) ≡ n
  unfolding holding
  holding-length = rw (length-append, stuffing-length) (omega arith)

  over : (i : ℕ) → byte_at (holding n body) (length (envelope body) + i) ≡ get_or (stuffing (n - length (envelope body))) i 0
  unfolding holding
  over i = get_or-append-add (envelope body) (stuffing (n - length (envelope body))) i 0

  -- its descriptor is one of ours
  its-first : Upto (holding n body) (length (envelope body)) (some 0)
  unfolding holding
  its-first = U.ours {at = 0} {e = length (envelope body)} U.start refl (omega arith) refl (omega arith) (rw holding-length fits)

  -- .. and ends the slot, or stuffing behind it does
  its-rest : Upto (holding n body) (length (holding n body)) (some 0)
  its-rest =
      ⊎_elim
      (λ (e : length (envelope body) ≡ n). subst (λ (x : ℕ). Upto (holding n body) x (some 0)) (e ∙ sym holding-length) its-first)
      (λ (b : length (envelope body) < n).
      let m : 1 < n - length (envelope body) = omega arith in
      let a : byte_at (holding n body) (length (envelope body)) ≡ stuffing_tag =
      ap (byte_at (holding n body)) (sym (add-zero (length (envelope body)))) ∙ over 0 ∙ stuffing-tag (n - length (envelope body)) 0 refl (omega arith) in
      let z : byte_at (holding n body) (length (envelope body) + 1) ≡ n - length (envelope body) - 2 =
      over 1 ∙ stuffing-size (n - length (envelope body)) 1 refl m in
      let k = holding-length in
      U.stuffing {at = length (envelope body)} {e = length (holding n body)} its-first a (omega arith) (omega arith))
      (eq-or-lt_of_le fits)

  pub image : Good (holding n body) (some 0)
  image = record { least = rw holding-length l; most = rw holding-length h; upto = its-rest }

  pub image-body : body_at (holding n body) 0 ≡ body
  unfolding holding
  image-body =
      let e : suc (length body) - 1 ≡ length body = omega arith in
      rw e (take_at body (stuffing (n - length (envelope body))) (length body) refl)
