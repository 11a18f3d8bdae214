-- Why a slot is refused. Reading it tells 6 for its size, and 12 with the offset for its form; in good form it tells what the reader tells of a body, which is 0, 1
-- or 2 (`good-told`). So 6 and 12 are told exactly where size and form say so, and 12 tells where the form breaks (`twelve`), and where to cut (`cut-good`).
-- Assumes nothing.
use mathlib.Core.Path.{◌≡◌, refl, sym, ap, ◌∙◌}
use mathlib.Core.Bool.{Bool, true, false, false≢true}
use mathlib.Core.List.{List, [], ◌∷◌}
use Prim.Native.Nat.{ℕ, ◌≤◌}
use native.Mathlib.Omega.{arith}
use lib.ListN.{length, take, get_or}
use lib.Dec.{ltb, eqb}
use Rattle.wire.specs.Flags.{when}
use Rattle.answers.specs.Answer.{numbers, number_of}
use Rattle.answers.specs.Short.{Need, short_told}
use Rattle.answers.specs.declared.answer.Refusal.{Refusal}
use Rattle.s2xv2.specs.Read.{present_in, needs, short_of, read_told}
use Rattle.form.specs.Form.{body_at, good_form, form_of}
use Rattle.form.specs.declared.good.Form.{Form}
use Rattle.form.specs.declared.good.Form.TheVariants as F
use Rattle.form.proofs.Answers.{is_good, tells-size}
use Rattle.form.proofs.Answers as A
use Rattle.form.proofs.Offset.{Broke, wrong_size, broken-at, repaired}
use Rattle.slot.specs.Read.{without, shows_body, shows_form, shown}

-- ---- the reader's numbers
pick : (b : Bool) (x y : List ℕ) → number_of x ≤ 2 → number_of y ≤ 2 → number_of (when b x y) ≤ 2
pick true x y h k = h
pick false x y h k = k

short-few : (short : Need → Refusal) (have : ℕ) (ns : List Need) (otherwise : List ℕ) → ((n : Need) → number_of (numbers (short n)) ≤ 2)
    → number_of otherwise ≤ 2 → number_of (short_told short have ns otherwise) ≤ 2
short-few short have [] otherwise h k = k
short-few short have (n ∷ ns) otherwise h k = pick (ltb have n.need) _ _ (h n) (short-few short have ns otherwise h k)

reader-few : (b : List ℕ) → number_of (read_told b) ≤ 2
unfolding read_told
reader-few b =
    pick (ltb 4096 (length b)) _ _ (omega arith) (short-few (short_of b) (length b) (needs b (present_in b)) _ (λ n. omega arith) (omega arith))

body-few : (at : ℕ) (b : List ℕ) → number_of (shows_body at b).reading.told ≤ 2
unfolding shows_body
body-few at b = pick (eqb (number_of (read_told b)) 0) _ _ (omega arith) (reader-few b)

form-few : (s : List ℕ) (f : Form) → is_good f ≡ true → number_of (shows_form s f).reading.told ≤ 2
form-few s F.Size e = absurd (false≢true e)
form-few s (F.Broken at) e = absurd (false≢true e)
form-few s F.Empty e = omega arith
form-few s (F.Ours at) e = body-few at (body_at s at)

module _ (s : List ℕ) where
  -- In good form neither 6 nor 12 is told.
  pub good-told : good_form s ≡ true → number_of (shown s).reading.told ≤ 2
  unfolding shown
  good-told g = form-few s (form_of s) (A.good-told s (form_of s) refl ∙ g)

  -- 6 is told for a size outside 21 to 257, with no record and no tail, and for nothing else ..
  pub size-told : ((21 ≤ length s) × (length s ≤ 257) → ⊥) → shown s ≡ without (6 ∷ [])
  unfolding shown
  size-told n = ap (shows_form s) (sym (tells-size s n))

  pub told-size : number_of (shown s).reading.told ≡ 6 → (21 ≤ length s) × (length s ≤ 257) → ⊥
  unfolding shown
  told-size e = wrong_size s (by (form_of s) e)
    where
      by : (f : Form) → number_of (shows_form s f).reading.told ≡ 6 → f ≡ F.Size
      by F.Size q = refl
      by (F.Broken at) q = let z : ◌≡◌ {A = ℕ} 12 6 = q in absurd (omega arith)
      by F.Empty q = let z : ◌≡◌ {A = ℕ} 0 6 = q in absurd (omega arith)
      by (F.Ours at) q = let h = body-few at (body_at s at) in absurd (omega arith)

  -- .. and 12 with an offset for a form that breaks there.
  pub form-told : (o : ℕ) → form_of s ≡ F.Broken o → shown s ≡ without (12 ∷ o ∷ [])
  unfolding shown
  form-told o e = ap (shows_form s) e

  pub told-form : (o : ℕ) → (shown s).reading.told ≡ 12 ∷ o ∷ [] → form_of s ≡ F.Broken o
  unfolding shown
  told-form o e = by (form_of s) e
    where
      by : (f : Form) → (shows_form s f).reading.told ≡ 12 ∷ o ∷ [] → f ≡ F.Broken o
      by F.Size q = let z : ◌≡◌ {A = ℕ} 6 12 = ap number_of q in absurd (omega arith)
      by (F.Broken at) q = ap (λ (l : List ℕ). F.Broken (get_or l 1 0)) q
      by F.Empty q = let z : ◌≡◌ {A = ℕ} 0 12 = ap number_of q in absurd (omega arith)
      by (F.Ours at) q = let h = body-few at (body_at s at) in let z = ap number_of q in absurd (omega arith)

  module _ (o : ℕ) (e : (shown s).reading.told ≡ 12 ∷ o ∷ []) where
    -- THE OFFSET THAT IS TOLD: descriptors lead to it, and the one there breaks the form
    pub twelve : (21 ≤ length s) × ((length s ≤ 257) × Broke s o)
    twelve = broken-at s o (told-form o e)

    -- .. and the slot that is cut there is in good form, if it is long enough
    pub cut-good : 21 ≤ o → good_form (take o s) ≡ true
    cut-good l = repaired s o (told-form o e) l
