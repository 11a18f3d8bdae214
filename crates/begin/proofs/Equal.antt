-- Any two answers that the contract of begin allows are equal: the numbers of an answer lose nothing, and the job is given by an equation.
-- Assumes nothing.
use mathlib.Core.Path.{◌≡◌, refl, sym, ap, ◌∙◌}
use mathlib.Core.List.{List}
use Prim.Native.Nat.{ℕ}
use Rattle.s2xv2.specs.declared.record.S2Xv2SatelliteDeliverySystem.{S2Xv2SatelliteDeliverySystem}
use Rattle.answers.proofs.Answers.{same-told}
use Rattle.begin.specs.declared.Begun.{Begun}
use Rattle.begin.specs.Begin.{Begins, begun_seen, begin_of}
use Rattle.std.specs.Prelude.{Result, Ok, Err}
use Rattle.answers.specs.Answer.{told}
use Rattle.job.specs.declared.job.Job.{Job}
use Rattle.answers.specs.declared.answer.Refusal.{Refusal}

-- an answer without its job, and with one again
answer : Result Begun Refusal → Result ℕ Refusal
answer (Ok b) = Ok b.stores
answer (Err why) = Err why

with_job : Result ℕ Refusal → Job → Result Begun Refusal
with_job (Ok n) job = Ok (record { stores = n; job = job })
with_job (Err why) job = Err why

begun_of : (a : Result Begun Refusal) → with_job (answer a) (begun_seen a).job ≡ a
unfolding answer with_job
begun_of (Ok b) = refl
begun_of (Err why) = refl

told_of : (a : Result Begun Refusal) → told (answer a) ≡ (begun_seen a).told
unfolding answer
told_of (Ok b) = refl
told_of (Err why) = refl

same-begun : (a b : Result Begun Refusal) → begun_seen a ≡ begun_seen b → a ≡ b
same-begun a b e =
    let p = same-told (answer a) (answer b) (told_of a ∙ ap (λ (x : Begins). x.told) e ∙ sym (told_of b)) in
    sym (begun_of a) ∙ ap (λ (x : Result ℕ Refusal). with_job x (begun_seen a).job) p ∙ ap (λ (x : Begins). with_job (answer b) x.job) e ∙ begun_of b

-- `begin`
pub begin-equal : (s : List ℕ) (r : S2Xv2SatelliteDeliverySystem) (tail : List ℕ) (a b : Result Begun Refusal)
    → begun_seen a ≡ begin_of s r tail → begun_seen b ≡ begin_of s r tail → a ≡ b
begin-equal s r tail a b p q = same-begun a b (p ∙ sym q)
