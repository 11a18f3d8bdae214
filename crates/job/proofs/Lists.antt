-- A job's list of stores: its length, the store at each number, and the places. The list is cut where its parts join.
-- Assumes nothing.
use mathlib.Core.Path.{◌≡◌, refl, sym, ap, ◌∙◌}
use mathlib.Core.List.{List, [], ◌∷◌, ◌++◌}
use Prim.Native.Nat.{ℕ, zero, suc, ◌+◌, ◌-◌, ◌≤◌, ◌<◌}
use native.Mathlib.Nat.{add-zero, not-suc-le-zero, le_of_suc-le-suc, suc-add, zero-add}
use native.Mathlib.Omega.{arith}
use lib.ListN.{length, get_or, drop, length-append, length-drop, get_or-append}
use lib.Seq.{get_or-drop, get_or-append-add}
use Rattle.stores.specs.declared.store.Store.{Store}
use Rattle.stores.specs.Run.{◌at◌, upwards, Within}
use Rattle.stores.proofs.Laws.{upwards-length, upwards-at, upwards-within, within-append}
use Rattle.form.specs.Envelope.{tag, stuffing}
use Rattle.form.proofs.Stuffing.{stuffing-length}
use Rattle.job.specs.Stores.{behind, covered, stores}
use Rattle.job.specs.Job.{first_bytes, none}

-- ---- the first bytes of a list

pub first-length : (d : ℕ) (bs : List ℕ) → length (first_bytes d bs) ≡ d
unfolding first_bytes
first-length zero bs = refl
first-length (suc d) bs = ap suc (first-length d (drop 1 bs))

pub first-at : (d : ℕ) (bs : List ℕ) (i : ℕ) → i < d → get_or (first_bytes d bs) i 0 ≡ get_or bs i 0
unfolding first_bytes
first-at zero bs i h = absurd (not-suc-le-zero h)
first-at (suc d) bs zero h = refl
first-at (suc d) bs (suc i) h = first-at d (drop 1 bs) i (le_of_suc-le-suc h) ∙ get_or-drop 1 bs i 0 ∙ ap (λ (k : ℕ). get_or bs k 0) (suc-add 0 i ∙ ap suc (zero-add i))

-- of a list that stands in front of another, all bytes are the list
pub first-all : (ds more : List ℕ) → first_bytes (length ds) (ds ++ more) ≡ ds
unfolding first_bytes
first-all [] more = refl
first-all (x ∷ ds) more = ap (λ (t : List ℕ). x ∷ t) (first-all ds more)

-- ---- for a descriptor of at least two bytes that is no longer than the slot
module _ (n : ℕ) (ds : List ℕ) (two : 2 ≤ length ds) (fits : length ds ≤ n) where
  pub behind-length : length (behind n ds) ≡ n - 2
  unfolding behind
  behind-length = simp (length-append, length-drop, stuffing-length) (omega arith)

  pub behind-own : (i : ℕ) → 2 ≤ i → i < length ds → get_or (behind n ds) (i - 2) 0 ≡ get_or ds i 0
  unfolding behind
  behind-own i l h =
      let b : i - 2 < length (drop 2 ds) = simp length-drop (omega arith) in
      let e : 2 + (i - 2) ≡ i = omega arith in
      get_or-append (drop 2 ds) (stuffing (n - length ds)) 0 (i - 2) b ∙ get_or-drop 2 ds (i - 2) 0 ∙ ap (λ (k : ℕ). get_or ds k 0) e

  pub behind-stuffing : (i : ℕ) → length ds ≤ i → get_or (behind n ds) (i - 2) 0 ≡ get_or (stuffing (n - length ds)) (i - length ds) 0
  unfolding behind
  behind-stuffing i h =
      let e : i - 2 ≡ length (drop 2 ds) + (i - length ds) = simp length-drop (omega arith) in
      ap (λ (k : ℕ). get_or (drop 2 ds ++ stuffing (n - length ds)) k 0) e ∙ get_or-append-add (drop 2 ds) (stuffing (n - length ds)) (i - length ds) 0

  pub stores-length : length (stores n ds) ≡ n + 2
  unfolding stores covered
  stores-length = simp (length-append, upwards-length, behind-length) (omega arith)

  -- the stores from the third on, and the last two, which stand behind them
  stores-two : (m : ℕ) → m < n - 2 → get_or (stores n ds) (suc (suc m)) none ≡ get_or (behind n ds) m 0 at (2 + m)
  unfolding stores covered
  stores-two m h =
      let b : m < length (upwards 2 (behind n ds)) = rw (upwards-length, behind-length) h in
      let c : m < length (behind n ds) = rw behind-length h in
      get_or-append (upwards 2 (behind n ds)) _ none m b ∙ upwards-at 2 m (behind n ds) none c

  stores-last : (m : ℕ) → get_or (stores n ds) (n + m) none ≡ get_or ((length ds - 2) at 1 ∷ tag at 0 ∷ []) m none
  unfolding stores covered
  stores-last m =
      let e : n + m ≡ suc (suc (length (upwards 2 (behind n ds)) + m)) = rw (upwards-length, behind-length) (omega arith) in
      ap (λ (k : ℕ). get_or (stores n ds) k none) e ∙ get_or-append-add (upwards 2 (behind n ds)) _ m none

  pub stores-between : (k : ℕ) → 2 ≤ k → k < n → get_or (stores n ds) k none ≡ get_or (behind n ds) (k - 2) 0 at k
  stores-between k l h =
      let e : suc (suc (k - 2)) ≡ k = omega arith in
      let e' : 2 + (k - 2) ≡ k = omega arith in
      ap (λ (i : ℕ). get_or (stores n ds) i none) (sym e) ∙ stores-two (k - 2) (omega arith) ∙ ap {B = Store} (λ (i : ℕ). get_or (behind n ds) (k - 2) 0 at i) e'

  pub stores-size : get_or (stores n ds) n none ≡ (length ds - 2) at 1
  stores-size = ap (λ (k : ℕ). get_or (stores n ds) k none) (sym (add-zero n)) ∙ stores-last 0

  pub stores-tag : get_or (stores n ds) (n + 1) none ≡ tag at 0
  stores-tag = stores-last 1

  pub stores-within : Within 0 n (stores n ds)
  unfolding stores covered
  stores-within =
      let u : Within 0 n (upwards 2 (behind n ds)) = upwards-within 0 2 n (behind n ds) (omega arith) (rw behind-length (omega arith)) in
      (omega arith, omega arith, (omega arith, omega arith, within-append 0 n (upwards 2 (behind n ds)) _ u (omega arith, omega arith, (omega arith, omega arith, tt))))
