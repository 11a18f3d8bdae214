-- Every slot is covered by descriptors, or broken at a place that descriptors lead to, by what its bytes are alone. The turns are counted down from its length.
-- Assumes nothing.
use mathlib.Core.Path.{◌≡◌, refl}
use mathlib.Core.List.{List}
use mathlib.Core.Option.{Option, none, some}
use Prim.Native.Nat.{ℕ, zero, suc, ◌+◌, ◌≤◌, ◌<◌}
use native.Mathlib.Decide.{dec_le, ℕ_discrete}
use native.Mathlib.Omega.{arith}
use lib.ListN.{length}
use Rattle.form.specs.Envelope.{tag, extension, stuffing_tag}
use Rattle.form.specs.Form.{byte_at}
use Rattle.form.specs.Bytewise.{behind, Upto, Cause}
use Rattle.form.specs.Bytewise as U

-- a turn of the walk: the descriptor at a place breaks the form, or it is stuffing or the first of ours, and leads on
pub data Turn (s : List ℕ) (at : ℕ) (m : Option ℕ) : Type 0 where
  breaks : Cause s at m → Turn s at m
  leads : (k : Option ℕ) → behind s at ≤ length s → Upto s (behind s at) k → Turn s at m

module _ (s : List ℕ) (at : ℕ) where
  by-third : Upto s at none → behind s at ≤ length s → byte_at s at ≡ tag → Dec (byte_at s (at + 1) ≡ 0) → Dec (byte_at s (at + 2) ≡ extension) → Turn s at none
  by-third u f t (yes z) x = breaks (U.length-zero f t z)
  by-third u f t (no z) (no x) = breaks (U.other-third f t (omega arith) x)
  by-third u f t (no z) (yes x) = leads (some at) f (U.ours u t (omega arith) x refl f)

  by-met : (m : Option ℕ) → Upto s at m → behind s at ≤ length s → byte_at s at ≡ tag → Turn s at m
  by-met (some a) u f t = breaks (U.second f t)
  by-met none u f t = by-third u f t (ℕ_discrete _ _) (ℕ_discrete _ _)

  by-tag : (m : Option ℕ) → Upto s at m → behind s at ≤ length s → Dec (byte_at s at ≡ stuffing_tag) → Dec (byte_at s at ≡ tag) → Turn s at m
  by-tag m u f (yes t) b = leads m f (U.stuffing u t refl f)
  by-tag m u f (no a) (yes t) = by-met m u f t
  by-tag m u f (no a) (no b) = breaks (U.foreign f a b)

  by-fit : (m : Option ℕ) → Upto s at m → at < length s → Dec (behind s at ≤ length s) → Dec (at + 2 ≤ length s) → Turn s at m
  by-fit m u l (yes f) b = by-tag m u f (ℕ_discrete _ _) (ℕ_discrete _ _)
  by-fit m u l (no f) (yes b) = breaks (U.runs-past b (omega arith))
  by-fit m u l (no f) (no b) = breaks (U.one-left (omega arith))

  pub turn : (m : Option ℕ) → Upto s at m → at < length s → Turn s at m
  turn m u l = by-fit m u l (dec_le (behind s at) (length s)) (dec_le (at + 2) (length s))

pub data Outcome (s : List ℕ) : Type 0 where
  broken : (o : ℕ) (m : Option ℕ) → Upto s o m → Cause s o m → Outcome s
  covers : (m : Option ℕ) → Upto s (length s) m → Outcome s

module _ (s : List ℕ) where
  -- a turn, where k turns more are known to do
  module _ (k at : ℕ) (on : (e : ℕ) (m : Option ℕ) → e ≤ length s → length s ≤ e + k → Upto s e m → Outcome s) (h : length s ≤ at + suc k) (m : Option ℕ) (u : Upto s at m) where
    by_turn : Turn s at m → Outcome s
    by_turn (breaks c) = broken at m u c
    by_turn (leads j f v) = on (behind s at) j f (omega arith) v

    by_end : at ≤ length s → Dec (length s ≤ at) → Outcome s
    by_end l (yes e) = let q : at ≡ length s = omega arith in covers m (rw (← q) u)
    by_end l (no e) = by_turn (turn s at m u (omega arith))

  onward : (k e : ℕ) (m : Option ℕ) → e ≤ length s → length s ≤ e + k → Upto s e m → Outcome s
  onward zero e m l h u = let q : e ≡ length s = omega arith in covers m (rw (← q) u)
  onward (suc k) e m l h u = by_end k e (onward k) h m u l (dec_le (length s) e)

  pub outcome : Outcome s
  outcome = onward (length s) 0 none (omega arith) (omega arith) U.start
