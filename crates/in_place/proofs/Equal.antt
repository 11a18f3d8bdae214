-- Any two answers that the contract of the call allows are equal, and so are any two jobs and any two slots that it leaves.
-- Assumes nothing.
use mathlib.Core.Path.{◌≡◌, sym, ap, ◌∙◌}
use mathlib.Core.List.{List}
use Prim.Native.Nat.{ℕ}
use lib.ListN.{length}
use Rattle.job.specs.declared.job.Job.{Job}
use Rattle.std.specs.Prelude.{Result}
use Rattle.job.specs.declared.job.OtherSize.{OtherSize}
use Rattle.job.specs.declared.job.Advanced.{Advanced}
use Rattle.job.specs.Step.{step_of, slot_after}
use Rattle.job.proofs.Equal.{same-answer}
use Rattle.in_place.specs.Advanced.{Tells, tells, advanced_seen}

same-advanced : (a b : Result Advanced OtherSize) → advanced_seen a ≡ advanced_seen b → a ≡ b
same-advanced a b e = same-answer a b (ap (λ (x : Tells). x.told) e) (ap (λ (x : Tells). x.made) e) (ap (λ (x : Tells). x.done) e)

-- `step_in_place`: the answer, the job, and the slot
module _ (j : Job) (s : List ℕ) (n : ℕ) where
  pub in-place-equal : (a b : Result Advanced OtherSize) → advanced_seen a ≡ tells (step_of j (length s) n) → advanced_seen b ≡ tells (step_of j (length s) n) → a ≡ b
  in-place-equal a b p q = same-advanced a b (p ∙ sym q)

  pub in-place-job-equal : (x y : Job) → x ≡ (step_of j (length s) n).job → y ≡ (step_of j (length s) n).job → x ≡ y
  in-place-job-equal x y p q = p ∙ sym q

  pub in-place-slot-equal : (x y : List ℕ) → x ≡ slot_after j s n → y ≡ slot_after j s n → x ≡ y
  in-place-slot-equal x y p q = p ∙ sym q
