-- A list of stores `covered n d middle` is safe after every number of them: while the middle is stored, the two bytes in front of it are a cover.
-- Assumes nothing.
-- Nothing here knows what good form is: a caller brings a predicate `Reads t x`, "t is in good form and reads as x", and a fact of it for each
-- phase of the run (`Phases`).
use mathlib.Core.Path.{◌≡◌, refl, sym, ap, ◌∙◌}
use mathlib.Core.List.{List, [], ◌∷◌}
use mathlib.Core.Logic.{⊎_elim}
use Prim.Native.Nat.{ℕ, zero, suc, ◌+◌, ◌-◌, ◌≤◌, ◌<◌}
use native.Mathlib.Nat.{eq-or-lt_of_le}
use native.Mathlib.Decide.{dec_le}
use native.Mathlib.Omega.{arith}
use borrow.Author.Tests.{ne_eqb, lt-ltb, le-ltb}
use lib.ListN.{length, get_or, take, set, length-set, length-append}
use lib.Seq.{take-append-le, take-append-add, take_all, get_or-set_same, get_or-set_other}
use Rattle.stores.specs.declared.store.Store.{Store}
use Rattle.stores.specs.Run.{◌at◌, run, Within}
use Rattle.stores.proofs.Laws.{run-append, run_length, run-below, within-take}
use Rattle.form.specs.Envelope.{tag, stuffing_tag}
use Rattle.job.specs.Stores.{covered}
use Rattle.demand3.specs.Demand3.{reads_after}

pub covered-length : (n d : ℕ) (middle : List Store) → length (covered n d middle) ≡ length middle + 4
unfolding covered
covered-length n d middle = rw length-append (omega arith)

-- the slot under its cover: after the first two stores
abbrev pub under : ℕ → List ℕ → List ℕ
under n s = set (set s 0 stuffing_tag) 1 (n - 2)

-- ---- the slot after k stores, by k
module _ (n d : ℕ) (middle : List Store) (s : List ℕ) where
  after_one : run (take 1 (covered n d middle)) s ≡ set s 0 stuffing_tag
  unfolding run covered
  after_one = refl

  after-some : (m : ℕ) → m ≤ length middle → run (take (suc (suc m)) (covered n d middle)) s ≡ run (take m middle) (under n s)
  unfolding run covered
  after-some m h = ap (λ (ps : List Store). run ps (under n s)) (take-append-le m middle _ h)

  after_more : (m : ℕ) → run (take (suc (suc (length middle + m))) (covered n d middle)) s ≡ run (take m ((d - 2) at 1 ∷ tag at 0 ∷ [])) (run middle (under n s))
  unfolding run covered
  after_more m = ap (λ (ps : List Store). run ps (under n s)) (take-append-add middle _ m) ∙ run-append middle _ (under n s)

  -- all made: whatever the slot held, it holds the two bytes in front and what the middle left behind them
  pub after-all : (b : List ℕ) → run middle (under n s) ≡ stuffing_tag ∷ (n - 2) ∷ b → run (covered n d middle) s ≡ tag ∷ (d - 2) ∷ b
  unfolding run covered
  after-all b right = run-append middle _ (under n s) ∙ rw right

-- ---- the readings by k
pub after_none : {A : Type 0} (a f e z : A) (m : ℕ) → reads_after a f e z m 0 ≡ a
unfolding reads_after
after_none a f e z m = refl

pub after-first : {A : Type 0} (a f e z : A) (m : ℕ) → reads_after a f e z m 1 ≡ f
unfolding reads_after
after-first a f e z m = refl

pub after-between : {A : Type 0} (a f e z : A) (m k : ℕ) → 1 < k → k < m → reads_after a f e z m k ≡ e
unfolding reads_after
after-between a f e z m k p h = rw (ne_eqb k 0 (omega arith), ne_eqb k 1 (omega arith), lt-ltb k m h)

pub after_last : {A : Type 0} (a f e z : A) (m k : ℕ) → 1 < k → m ≤ k → reads_after a f e z m k ≡ z
unfolding reads_after
after_last a f e z m k p h = rw (ne_eqb k 0 (omega arith), ne_eqb k 1 (omega arith), le-ltb k m h)

-- ---- what is asked of the form, phase by phase: b is what stands behind the first two bytes in the end
pub record Phases {A : Type 0} (Reads : List ℕ → A → Type 0) (n d : ℕ) (s b : List ℕ) (before first empty last : A) : Type 0 where
  pub none : Reads s before
  pub one : Reads (set s 0 stuffing_tag) first
  pub cover : (t : List ℕ) → length t ≡ n → get_or t 0 0 ≡ stuffing_tag → get_or t 1 0 ≡ n - 2 → Reads t empty
  pub late : Reads (stuffing_tag ∷ (d - 2) ∷ b) empty
  pub all : Reads (tag ∷ (d - 2) ∷ b) last

-- ---- the run is safe, where the middle stays behind the first two bytes and leaves b there
module _ {A : Type 0} (Reads : List ℕ → A → Type 0) (n d : ℕ) (s b : List ℕ) (before first empty last : A) (P : Phases Reads n d s b before first empty last)
    (len : length s ≡ n) (two : 2 ≤ n) (middle : List Store) (w : Within 2 n middle) (right : run middle (under n s) ≡ stuffing_tag ∷ (n - 2) ∷ b) where
  abbrev At : ℕ → Type 0
  At k = Reads (run (take k (covered n d middle)) s) (reads_after before first empty last (length middle + 4) k)

  one-made : At (suc zero)
  one-made = rw (after_one n d middle s, after-first before first empty last (length middle + 4)) P.one

  -- the cover holds while the middle is stored
  some-made : (m : ℕ) → m ≤ length middle → At (suc (suc m))
  some-made m h =
      let t = run (take m middle) (under n s) in
      let v = within-take 2 n m middle w in
      let l : length t ≡ n = run_length (take m middle) (under n s) ∙ length-set (set s 0 stuffing_tag) 1 (n - 2) ∙ length-set s 0 stuffing_tag ∙ len in
      let a : get_or t 0 0 ≡ stuffing_tag =
      run-below 2 n (take m middle) (under n s) v 0 0 (omega arith)
      ∙ get_or-set_other (set s 0 stuffing_tag) 1 0 (n - 2) 0 (omega arith)
      ∙ get_or-set_same s 0 stuffing_tag 0 (omega arith) in
      let e : get_or t 1 0 ≡ n - 2 =
      run-below 2 n (take m middle) (under n s) v 1 0 (omega arith)
      ∙ get_or-set_same (set s 0 stuffing_tag) 1 (n - 2) 0 (rw length-set (omega arith)) in
      rw (after-some n d middle s m h, after-between before first empty last (length middle + 4) (suc (suc m)) (omega arith) (omega arith)) (P.cover t l a e)

  late-made : At (suc (suc (length middle + 1)))
  unfolding run
  late-made =
      rw (after_more n d middle s 1, right, after-between before first empty last (length middle + 4) (suc (suc (length middle + 1))) (omega arith) (omega arith)) P.late

  all_made : At (suc (suc (length middle + 2)))
  unfolding run
  all_made =
      rw (after_more n d middle s 2, right, after_last before first empty last (length middle + 4) (suc (suc (length middle + 2))) (omega arith) (omega arith)) P.all

  by_size : (m : ℕ) → suc (suc m) ≤ length middle + 4 → Dec (m ≤ length middle) → At (suc (suc m))
  by_size m h (yes l) = some-made m l
  by_size m h (no l) =
      let q : m ≤ length middle + 2 = omega arith in
      ⊎_elim
      (λ (e : m ≡ length middle + 2). rw e all_made)
      (λ (q : m < length middle + 2). let e : m ≡ length middle + 1 = omega arith in rw e late-made)
      (eq-or-lt_of_le q)

  within_all : (k : ℕ) → k ≤ length middle + 4 → At k
  unfolding run
  within_all zero h = rw (after_none before first empty last (length middle + 4)) P.none
  within_all (suc zero) h = one-made
  within_all (suc (suc m)) h = by_size m h (dec_le m (length middle))

  -- more stores than there are: all are made
  beyond : (k : ℕ) → length middle + 4 < k → At k
  beyond k h =
      let e : take k (covered n d middle) ≡ take (length middle + 4) (covered n d middle) =
      take_all k (covered n d middle) (rw covered-length (omega arith)) ∙ sym (take_all (length middle + 4) (covered n d middle) (rw covered-length (omega arith))) in
      rw (e, after_last before first empty last (length middle + 4) k (omega arith) (omega arith))
      (rw (after_last before first empty last (length middle + 4) (length middle + 4) (omega arith) (omega arith)) at (within_all (length middle + 4) (omega arith)))

  pub safe : (k : ℕ) → At k
  safe k = by (dec_le k (length middle + 4))
    where
      by : Dec (k ≤ length middle + 4) → At k
      by (yes h) = within_all k h
      by (no h) = beyond k (omega arith)
