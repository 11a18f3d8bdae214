-- Laws of lists of stores. Each holds store by store, by induction over the list.
-- Assumes nothing.
use mathlib.Core.Path.{◌≡◌, refl, sym, ap, ◌∙◌}
use mathlib.Core.List.Memᴰ
use mathlib.Core.List.{List, [], ◌∷◌, ◌++◌, Memᴰ}
use Prim.Native.Nat.{ℕ, zero, suc, ◌+◌, ◌≤◌, ◌<◌}
use native.Mathlib.Nat.{add-suc, suc-add, add-zero, not-suc-le-zero, le_of_suc-le-suc}
use native.Mathlib.Decide.{ℕ_discrete, dec_lt}
use native.Mathlib.Numerals.{add-one}
use native.Mathlib.Omega.{arith}
use lib.ListN.{length, get_or, take, drop, set, length-set, take-append-drop}
use lib.Seq.{take-suc, take-add, get_or-set_other, get_or-set_same, set_out, sets}
use Rattle.stores.specs.declared.store.Store.{Store}
use Rattle.stores.specs.Run.Own.{kept, ours}
use Rattle.stores.specs.Run.{◌at◌, stored, run, upwards, Within, Own}

-- ---- run

-- a list and then another
pub run-append : (ps qs : List Store) (s : List ℕ) → run (ps ++ qs) s ≡ run qs (run ps s)
unfolding run
run-append [] qs s = refl
run-append (p ∷ ps) qs s = run-append ps qs (stored p s)

-- no store makes a slot longer or shorter
pub run_length : (ps : List Store) (s : List ℕ) → length (run ps s) ≡ length s
unfolding run
run_length [] s = refl
run_length (p ∷ ps) s = run_length ps (stored p s) ∙ length-set s p.place p.byte

-- one store more: what a loop over the stores turns on
pub run_more : (ps : List Store) (k : ℕ) (d : Store) (s : List ℕ) → k < length ps → run (take (k + 1) ps) s ≡ stored (get_or ps k d) (run (take k ps) s)
unfolding run
run_more ps k d s h = rw (add-one, take-suc ps k d h, run-append)

-- k stores and then c more are k + c
pub run-add : (ps : List Store) (k c : ℕ) (s : List ℕ) → run (take c (drop k ps)) (run (take k ps) s) ≡ run (take (k + c) ps) s
run-add ps k c s = sym (ap (λ (qs : List Store). run qs s) (take-add k c ps) ∙ run-append (take k ps) (take c (drop k ps)) s)

-- ---- within

-- a place below all stores is as it was
pub run-below : (a b : ℕ) (ps : List Store) (s : List ℕ) → Within a b ps → (i d : ℕ) → i < a → get_or (run ps s) i d ≡ get_or s i d
unfolding run
run-below a b [] s w i d h = refl
run-below a b (p ∷ ps) s w i d h =
    let e : get_or (stored p s) i d ≡ get_or s i d = get_or-set_other s p.place i p.byte d (let l = w.0 in omega arith) in
    run-below a b ps (stored p s) w.2 i d h ∙ e

pub within-take : (a b k : ℕ) (ps : List Store) → Within a b ps → Within a b (take k ps)
within-take a b zero ps w = tt
within-take a b (suc k) [] w = tt
within-take a b (suc k) (p ∷ ps) w = (w.0, w.1, within-take a b k ps w.2)

pub within-append : (a b : ℕ) (ps qs : List Store) → Within a b ps → Within a b qs → Within a b (ps ++ qs)
within-append a b [] qs w v = v
within-append a b (p ∷ ps) qs w v = (w.0, w.1, within-append a b ps qs w.2 v)

pub within-at : (a b : ℕ) (ps : List Store) (k : ℕ) (d : Store) → Within a b ps → k < length ps → (get_or ps k d).place < b
within-at a b [] k d w h = absurd (not-suc-le-zero h)
within-at a b (p ∷ ps) zero d w h = w.1
within-at a b (p ∷ ps) (suc k) d w h = within-at a b ps k d w.2 (le_of_suc-le-suc h)

-- ---- upwards

pub upwards-length : (i : ℕ) (bs : List ℕ) → length (upwards i bs) ≡ length bs
unfolding upwards
upwards-length i [] = refl
upwards-length i (b ∷ bs) = ap suc (upwards-length (suc i) bs)

pub upwards-run : (i : ℕ) (bs s : List ℕ) → run (upwards i bs) s ≡ sets s i bs
unfolding run upwards
upwards-run i [] s = refl
upwards-run i (b ∷ bs) s = upwards-run (suc i) bs (set s i b)

pub upwards-at : (i k : ℕ) (bs : List ℕ) (d : Store) → k < length bs → get_or (upwards i bs) k d ≡ get_or bs k 0 at (i + k)
unfolding upwards
upwards-at i k [] d h = absurd (not-suc-le-zero h)
upwards-at i zero (b ∷ bs) d h = ap {B = Store} (λ (j : ℕ). b at j) (sym (add-zero i))
upwards-at i (suc k) (b ∷ bs) d h =
    upwards-at (suc i) k bs d (le_of_suc-le-suc h) ∙ ap {B = Store} (λ (j : ℕ). get_or bs k 0 at j) (suc-add i k ∙ sym (add-suc i k))

pub upwards-within : (a i b : ℕ) (bs : List ℕ) → a ≤ i → i + length bs ≤ b → Within a b (upwards i bs)
unfolding upwards
upwards-within a i b [] l h = tt
upwards-within a i b (x ∷ bs) l h = (l, omega arith, upwards-within a (suc i) b bs (omega arith) (omega arith))

-- ---- what a list of stores leaves at a place is what stood there, or one of its own bytes
own-here : (p : Store) (ps : List Store) (s : List ℕ) (i x : ℕ) → x ≡ get_or (stored p s) i 0 → i ≡ p.place → Dec (i < length s) → Own (p ∷ ps) i (get_or s i 0) x
own-here p ps s i x e h (yes l) =
    let b : x ≡ p.byte = e ∙ ap (λ (j : ℕ). get_or (stored p s) j 0) h ∙ get_or-set_same s p.place p.byte 0 (omega arith) in
    ours (Memᴰ.head (ap {B = Store} (λ (y : ℕ). y at i) b ∙ ap {B = Store} (λ (j : ℕ). p.byte at j) h))
own-here p ps s i x e h (no l) = kept (e ∙ ap (λ (t : List ℕ). get_or t i 0) (set_out s p.place p.byte (omega arith)))

own-more : (p : Store) (ps : List Store) (s : List ℕ) (i x : ℕ) → Own ps i (get_or (stored p s) i 0) x → Dec (i ≡ p.place) → Own (p ∷ ps) i (get_or s i 0) x
own-more p ps s i x (ours m) d = ours (Memᴰ.tail m)
own-more p ps s i x (kept e) (yes h) = own-here p ps s i x e h (dec_lt i (length s))
own-more p ps s i x (kept e) (no h) = kept (e ∙ get_or-set_other s p.place i p.byte 0 h)

pub run-own : (ps : List Store) (s : List ℕ) (i : ℕ) → Own ps i (get_or s i 0) (get_or (run ps s) i 0)
unfolding run
run-own [] s i = kept refl
run-own (p ∷ ps) s i = own-more p ps s i _ (run-own ps (stored p s) i) (ℕ_discrete i p.place)

-- a store that is among some of a list's stores is among the list's
pub member-take : (k : ℕ) (ps : List Store) {p : Store} → Memᴰ p (take k ps) → Memᴰ p ps
member-take k ps m = rw (take-append-drop k ps) at (Memᴰ.append_left (drop k ps) m)

pub member-drop : (k : ℕ) (ps : List Store) {p : Store} → Memᴰ p (drop k ps) → Memᴰ p ps
member-drop k ps m = rw (take-append-drop k ps) at (Memᴰ.append_right (take k ps) m)
