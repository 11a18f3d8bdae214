-- The offset that is told of a broken form. Of size, offset and good form exactly one is told of a slot (`says`, `only-says`), by its size and walk alone
-- (`by-walk`); the size where it is wrong, and only there (`wrong_size`). The offset is sound (`broken-at`): whole descriptors lead to it, stuffing and at
-- most one of ours, and the one there has one of the four causes. It is the first, and the only one (`first`, `only-there`); and a slot that is cut there
-- is in good form, if it is long enough (`repaired`).
-- Assumes nothing.
use mathlib.Core.Path.{◌≡◌, sym, ap, subst, ◌∙◌}
use mathlib.Core.Bool.{true}
use mathlib.Core.List.{List, Memᴰ}
use mathlib.Core.Option.{Option, none, some}
use Prim.Native.Nat.{ℕ, ◌+◌, ◌≤◌, ◌<◌}
use native.Mathlib.Decide.{dec_le}
use native.Mathlib.Omega.{arith}
use lib.ListN.{length, take}
use lib.Seq.{get_or-take, length-take-le}
use Rattle.form.specs.Walk.{Descriptor, walk, descriptors}
use Rattle.form.specs.Form.{byte_at, good_form, ours, breaks, judged, form_of}
use Rattle.form.specs.Bytewise.{behind, Upto, Cause}
use Rattle.form.specs.Bytewise as U
use Rattle.form.specs.declared.good.Form.{Form}
use Rattle.form.specs.declared.good.Form.TheVariants as F
use Rattle.form.proofs.Outcomes.{Turn, leads, turn, Outcome, broken, covers, outcome}
use Rattle.form.proofs.Outcomes as T
use Rattle.form.proofs.Answers.{kind_of, place_of, Good, good-form, tells-size, tells-broken, tells-good}
use Rattle.form.proofs.Walked.{met-where}

-- whole descriptors lead from the first byte to o, each stuffing or ours, at most one of ours; and the one at o has one of the four causes
pub record Broke (s : List ℕ) (o : ℕ) : Type 0 where
  pub met : Option ℕ
  pub upto : Upto s o met
  pub cause : Cause s o met

-- what size and bytes say of a slot: a wrong size, broken at a place, or good form, with the one of ours at m
pub data Says (s : List ℕ) : Form → Type 0 where
  size : ((21 ≤ length s) × (length s ≤ 257) → ⊥) → Says s F.Size
  broke : 21 ≤ length s → length s ≤ 257 → (o : ℕ) → Broke s o → Says s (F.Broken o)
  good : (m : Option ℕ) → Good s m → Says s (judged none m)

module _ (s : List ℕ) where
  -- EXACTLY ONE OF THREE: what is told is so ..
  pub says : Says s (form_of s)
  says = by (dec_le 21 (length s)) (dec_le (length s) 257) (outcome s)
    where
      wrong : ((21 ≤ length s) × (length s ≤ 257) → ⊥) → Says s (form_of s)
      wrong n = subst (Says s) (tells-size s n) (size n)

      by : Dec (21 ≤ length s) → Dec (length s ≤ 257) → Outcome s → Says s (form_of s)
      by (yes l) (yes h) (broken o m u c) = subst (Says s) (tells-broken s l h o m u c) (broke l h o (record { met = m; upto = u; cause = c }))
      by (yes l) (yes h) (covers m u) = let g : Good s m = record { least = l; most = h; upto = u } in subst (Says s) (sym (tells-good s m g)) (good m g)
      by (yes l) (no h) x = wrong (λ f. h f.1)
      by (no l) h x = wrong (λ f. l f.0)

  -- .. and what is so is told
  pub only-says : (f : Form) → Says s f → f ≡ form_of s
  only-says f (size n) = tells-size s n
  only-says f (broke l h o b) = tells-broken s l h o b.met b.upto b.cause
  only-says f (good m g) = sym (tells-good s m g)

  -- a wrong size is told of no other
  pub wrong_size : form_of s ≡ F.Size → (21 ≤ length s) × (length s ≤ 257) → ⊥
  wrong_size e = by (form_of s) says e
    where
      by : (f : Form) → Says s f → f ≡ F.Size → (21 ≤ length s) × (length s ≤ 257) → ⊥
      by f (size n) q = n
      by f (broke l h o b) q = let z : ◌≡◌ {A = ℕ} 1 0 = ap kind_of q in absurd (omega arith)
      by f (good none g) q = let z : ◌≡◌ {A = ℕ} 2 0 = ap kind_of q in absurd (omega arith)
      by f (good (some a) g) q = let z : ◌≡◌ {A = ℕ} 3 0 = ap kind_of q in absurd (omega arith)

-- by size and walk alone
pub by-walk : (s t : List ℕ) → length s ≡ length t → walk s ≡ walk t → form_of s ≡ form_of t
unfolding form_of breaks ours
by-walk s t n w = rw (n, w)

module _ (s : List ℕ) (o : ℕ) (e : form_of s ≡ F.Broken o) where
  -- SOUND
  pub broken-at : (21 ≤ length s) × ((length s ≤ 257) × Broke s o)
  broken-at = by (form_of s) (says s) e
    where
      by : (f : Form) → Says s f → f ≡ F.Broken o → (21 ≤ length s) × ((length s ≤ 257) × Broke s o)
      by f (size n) q = let z : ◌≡◌ {A = ℕ} 0 1 = ap kind_of q in absurd (omega arith)
      by f (broke l h x b) q = (l, (h, subst (Broke s) (ap place_of q) b))
      by f (good none g) q = let z : ◌≡◌ {A = ℕ} 2 1 = ap kind_of q in absurd (omega arith)
      by f (good (some a) g) q = let z : ◌≡◌ {A = ℕ} 3 1 = ap kind_of q in absurd (omega arith)

  -- THE ONLY ONE: no other place that such descriptors lead to has a cause
  pub only-there : (a : ℕ) (m : Option ℕ) → Upto s a m → Cause s a m → a ≡ o
  only-there a m u c = ap place_of (tells-broken s broken-at.0 broken-at.1.0 a m u c ∙ e)

  -- where the walk is in front of it, such descriptors lead
  abbrev Led : ℕ → Type 0
  Led at = at < o → (m : Option ℕ) × Upto s at m

  led_on : (at : ℕ) → behind s at ≤ length s → Led at → Led (behind s at)
  led_on at f led h = let u = led (omega arith) in by u.0 u.1 (turn s at u.0 u.1 (omega arith))
    where
      by : (m : Option ℕ) → Upto s at m → Turn s at m → (k : Option ℕ) × Upto s (behind s at) k
      by m u (leads k f v) = (k, v)
      by m u (T.breaks c) = let q = only-there at m u c in absurd (omega arith)

  -- THE FIRST: to each descriptor of the walk in front of it such descriptors lead, and that one has no cause
  pub first : (d : Descriptor) → Memᴰ d (descriptors (walk s)) → d.offset < o → (m : Option ℕ) × (Upto s d.offset m × (Cause s d.offset m → ⊥))
  first d i l =
      let led = (met-where s d Led led_on (λ h. (none, U.start)) i).1 l in
      (led.0, (led.1, (λ c. let q = only-there d.offset led.0 led.1 c in omega arith)))

-- ---- cut at a place that descriptors lead to
within : (s : List ℕ) (e : ℕ) (m : Option ℕ) → Upto s e m → e ≤ length s
within s e m U.start = omega arith
within s e m (U.stuffing u t q l) = l
within s e m (U.ours u t y z q l) = l

module _ (s : List ℕ) (o : ℕ) (h : o ≤ length s) where
  cut-length : length (take o s) ≡ o
  cut-length = length-take-le o s h

  cut-byte : (i : ℕ) → i < o → byte_at (take o s) i ≡ byte_at s i
  cut-byte i l = get_or-take o s i 0 l

  cut : (e : ℕ) (m : Option ℕ) → Upto s e m → e ≤ o → Upto (take o s) e m
  cut e m U.start l = U.start
  cut e m (U.stuffing {at = a} {m = k} u t q w) l =
      let b = cut-byte (a + 1) (omega arith) in
      U.stuffing {at = a} {e = e} (cut a k u (omega arith)) (cut-byte a (omega arith) ∙ t) (omega arith) (rw cut-length l)
  cut e m (U.ours {at = a} u t y z q w) l =
      let b = cut-byte (a + 1) (omega arith) in
      U.ours {at = a} {e = e} (cut a none u (omega arith)) (cut-byte a (omega arith) ∙ t) (rw b y) (cut-byte (a + 2) (omega arith) ∙ z) (omega arith) (rw cut-length l)

-- MINIMAL REPAIR: what stands in front of the offset is a slot in good form, where it has the size of one
pub repaired : (s : List ℕ) (o : ℕ) → form_of s ≡ F.Broken o → 21 ≤ o → good_form (take o s) ≡ true
repaired s o e l =
    let b = broken-at s o e in
    let w = within s o b.1.1.met b.1.1.upto in
    let c = cut-length s o w in
    let g : Good (take o s) b.1.1.met =
    record { least = rw c l; most = rw c (let h = b.1.0 in omega arith); upto = rw c (cut s o w o b.1.1.met b.1.1.upto (omega arith)) } in
    (good-form g).0
