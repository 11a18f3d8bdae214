-- Any two answers that a contract of this crate allows are equal, and any two final slots: the numbers of an answer lose nothing.
-- Assumes nothing.
use mathlib.Core.Path.{◌≡◌, refl, sym, ap, ◌∙◌}
use mathlib.Core.Bool.{Bool}
use mathlib.Core.List.{List}
use Prim.Native.Nat.{ℕ}
use Rattle.std.specs.Prelude.{Result, Ok, Err}
use lib.ListN.{length}
use Rattle.job.specs.declared.job.Job.{Job}
use Rattle.job.specs.declared.job.OtherSize.{OtherSize}
use Rattle.job.specs.declared.job.Advanced.{Advanced}
use Rattle.job.specs.declared.job.Stepped.{Stepped}
use Rattle.job.specs.declared.advance.Moved.{Moved}
use Rattle.job.specs.Step.{step_told, step_made, step_done, Steps, step_seen, moved_seen, step_of, slot_after}

abbrev accepted : ℕ → Bool → Result Advanced OtherSize
accepted k b = Ok (record { stores = k; done = b })

abbrev moved : Steps → Result Moved OtherSize
moved s = Ok (record { made = s.job.stores_made; advanced = record { stores = s.made; done = s.done } })

-- Two answers of a step that say the same are equal.
pub same-answer : (a b : Result Advanced OtherSize) → step_told a ≡ step_told b → step_made a ≡ step_made b → step_done a ≡ step_done b → a ≡ b
same-answer (Ok x) (Ok y) t m d = ap (λ (k : ℕ). accepted k x.done) m ∙ ap (accepted y.stores) d
same-answer (Ok x) (Err y) t m d = cc
same-answer (Err x) (Ok y) t m d = cc
same-answer (Err x) (Err y) t m d = refl

same-stepped : (a b : Stepped) → step_seen a ≡ step_seen b → a ≡ b
same-stepped a b e =
    let w = same-answer a.answer b.answer (ap (λ (s : Steps). s.told) e) (ap (λ (s : Steps). s.made) e) (ap (λ (s : Steps). s.done) e) in
    ap {B = Stepped} (λ (s : Steps). record { job = s.job; answer = a.answer }) e
    ∙ ap {B = Stepped} (λ (x : Result Advanced OtherSize). record { job = b.job; answer = x }) w

same-moved : (j : Job) (a b : Result Moved OtherSize) → moved_seen j a ≡ moved_seen j b → a ≡ b
same-moved j (Ok x) (Ok y) e = ap moved e
same-moved j (Ok x) (Err y) e = let t = ap (λ (s : Steps). s.told) e in cc
same-moved j (Err x) (Ok y) e = let t = ap (λ (s : Steps). s.told) e in cc
same-moved j (Err x) (Err y) e = refl

-- `job::Job::step`: the answer with its job, and the slot
pub step-equal : (j : Job) (s : List ℕ) (n : ℕ) (a b : Stepped) → step_seen a ≡ step_of j (length s) n → step_seen b ≡ step_of j (length s) n → a ≡ b
step-equal j s n a b p q = same-stepped a b (p ∙ sym q)

pub step-slot-equal : (j : Job) (s : List ℕ) (n : ℕ) (x y : List ℕ) → x ≡ slot_after j s n → y ≡ slot_after j s n → x ≡ y
step-slot-equal j s n x y p q = p ∙ sym q

-- `advance::advance`: the answer; its slot is as of a step
pub advance-equal : (j : Job) (s : List ℕ) (n : ℕ) (a b : Result Moved OtherSize) → moved_seen j a ≡ step_of j (length s) n → moved_seen j b ≡ step_of j (length s) n → a ≡ b
advance-equal j s n a b p q = same-moved j a b (p ∙ sym q)
