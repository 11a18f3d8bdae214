-- Laws of runs of stores: two that meet are one, and so are the first and the last bytes of a list, which may overlap; one from the start is the
-- bytes and then what stood behind them, and a loop that copies makes one store more each turn.
-- Assumes nothing.
use mathlib.Core.Path.{◌≡◌, refl, sym, ap, ◌∙◌}
use mathlib.Core.List.{List, [], ◌∷◌, ◌++◌}
use Prim.Native.Nat.{ℕ, suc, ◌+◌, ◌-◌, ◌≤◌, ◌<◌}
use native.Mathlib.Nat.{add-zero, zero-add}
use native.Mathlib.Numerals.{add-one}
use native.Mathlib.Omega.{arith}
use lib.ListN.{length, set, take, drop, get_or, take-append-drop, length-drop}
use lib.Seq.{sets, sets-eq, set-set, set_comm, take_all, take-suc, take-add, length-take-le}
use Rattle.wire.specs.Store.{stored_from}

-- a run of stores, and a run that goes on where it ended
pub stored-then : (l : List ℕ) (p : ℕ) (vs ws : List ℕ) {q : ℕ} → q ≡ p + length vs → stored_from (stored_from l p vs) q ws ≡ stored_from l p (vs ++ ws)
unfolding stored_from
stored-then l p [] ws {q} e = ap (λ (k : ℕ). stored_from l k ws) (e ∙ add-zero p)
stored-then l p (v ∷ vs) ws {q} e = stored-then (set l p v) (p + 1) vs ws (omega arith)

-- .. as what a writer's parts are put together with
pub run : {l₁ l₂ : List ℕ} (l₀ : List ℕ) (p : ℕ) (vs : List ℕ) (q : ℕ) (ws : List ℕ) → l₁ ≡ stored_from l₀ p vs → l₂ ≡ stored_from l₁ q ws → q ≡ p + length vs → l₂ ≡ stored_from l₀ p (vs ++ ws)
run l₀ p vs q ws e₁ e₂ e = e₂ ∙ ap (λ (l : List ℕ). stored_from l q ws) e₁ ∙ stored-then l₀ p vs ws e

stored-sets : (l : List ℕ) (p : ℕ) (vs : List ℕ) → stored_from l p vs ≡ sets l p vs
unfolding stored_from
stored-sets l p [] = refl
stored-sets l p (v ∷ vs) = ap (λ (k : ℕ). stored_from (set l p v) k vs) (add-one p) ∙ stored-sets (set l p v) (suc p) vs

-- a run from the start
pub stored-front : (l vs : List ℕ) → length vs ≤ length l → stored_from l 0 vs ≡ vs ++ drop (length vs) l
stored-front l vs h = stored-sets l 0 vs ∙ sets-eq vs l 0 (omega arith) ∙ rw zero-add

-- one store more
pub stored_more : (l : List ℕ) (p : ℕ) (t : List ℕ) (i : ℕ) → i < length t → set (stored_from l p (take i t)) (p + i) (get_or t i 0) ≡ stored_from l p (take (i + 1) t)
unfolding stored_from
stored_more l p t i h =
    let e : length (take i t) ≡ i = length-take-le i t (omega arith) in
    rw (add-one i, take-suc t i 0) (stored-then l p (take i t) (get_or t i 0 ∷ []) (omega arith))

-- ---- bytes that are stored twice

-- a store before a run may as well come first
stored-set : (l : List ℕ) (i p v : ℕ) (vs : List ℕ) → i < p → set (stored_from l p vs) i v ≡ stored_from (set l i v) p vs
unfolding stored_from
stored-set l i p v [] h = refl
stored-set l i p v (w ∷ ws) h =
    stored-set (set l p w) i (p + 1) v ws (omega arith) ∙ ap (λ (m : List ℕ). stored_from m (p + 1) ws) (set_comm l p i w v (λ e. omega arith))

-- a run that is stored again changes nothing
stored-twice : (l : List ℕ) (p : ℕ) (vs : List ℕ) → stored_from (stored_from l p vs) p vs ≡ stored_from l p vs
unfolding stored_from
stored-twice l p [] = refl
stored-twice l p (v ∷ vs) =
    ap (λ (m : List ℕ). stored_from m (p + 1) vs) (stored-set (set l p v) p (p + 1) v vs (omega arith) ∙ ap (λ (m : List ℕ). stored_from m (p + 1) vs) (set-set l p v v))
    ∙ stored-twice (set l p v) (p + 1) vs

-- a run, and a run that begins with the end of it
stored-over : (l : List ℕ) (p : ℕ) (vs ws us : List ℕ) {q : ℕ} → q ≡ p + length vs → stored_from (stored_from l p (vs ++ ws)) q (ws ++ us) ≡ stored_from l p (vs ++ (ws ++ us))
stored-over l p vs ws us {q} e =
    let l₁ : List ℕ = stored_from l p vs in
    ap (λ (m : List ℕ). stored_from m q (ws ++ us)) (sym (stored-then l p vs ws e))
    ∙ sym (stored-then (stored_from l₁ q ws) q ws us refl)
    ∙ ap (λ (m : List ℕ). stored_from m (q + length ws) us) (stored-twice l₁ q ws)
    ∙ stored-then l₁ q ws us refl
    ∙ stored-then l p vs (ws ++ us) e

-- the first n bytes of a list that has at most twice as many, and then its last n
pub stored-ends : (l : List ℕ) (p n : ℕ) (t : List ℕ) (k : ℕ) → k ≤ n → k + n ≡ length t → stored_from (stored_from l p (take n t)) (p + k) (take n (drop k t)) ≡ stored_from l p t
stored-ends l p n t k h e =
    let d : k + (n - k) ≡ n = omega arith in
    let rest : List ℕ = drop k t in
    let both : List ℕ = take (n - k) rest in
    let first : take n t ≡ take k t ++ both = ap (λ (m : ℕ). take m t) (sym d) ∙ take-add k (n - k) t in
    let last : take n rest ≡ rest = take_all n rest (omega (arith, length-drop k t)) in
    let split : both ++ drop (n - k) rest ≡ rest = take-append-drop (n - k) rest in
    ap (λ (m : List ℕ). stored_from (stored_from l p m) (p + k) (take n rest)) first
    ∙ ap (stored_from (stored_from l p (take k t ++ both)) (p + k)) (last ∙ sym split)
    ∙ stored-over l p (take k t) both (drop (n - k) rest) (omega (arith, length-take-le k t (omega arith)))
    ∙ ap (stored_from l p) (ap (λ (m : List ℕ). take k t ++ m) split ∙ take-append-drop k t)
