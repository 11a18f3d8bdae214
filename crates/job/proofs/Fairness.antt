-- A fair job as facts and back: each test is an equation, and omega goes between the tests and the facts.
-- Assumes nothing.
use mathlib.Core.Path.{◌≡◌, refl, sym}
use mathlib.Core.Bool.{true, false, not}
use mathlib.Core.List.{List, []}
use Prim.Native.Nat.{ℕ, ◌+◌, ◌≤◌}
use native.Mathlib.Omega.{arith}
use borrow.Author.Tests.{leb-true, eqb-true, eqb-false, not-true, le-leb, eq-eqb, ne_eqb}
use lib.Dec.{eqb}
use Rattle.form.proofs.Tests.{all-each, each_all, fails}
use Rattle.form.proofs.GoodForm.{size-facts, facts-size}
use Rattle.job.specs.declared.job.Job.{Job}
use Rattle.job.specs.Job.{job_of, fit_tests, fits_in, fair_tests, fair, Fair}

-- ---- a descriptor that fits
differ-true : (a b : ℕ) → not (eqb a b) ≡ true → a ≡ b → ⊥
differ-true a b e = eqb-false a b (not-true (eqb a b) e)

pub fits-facts : (d n : ℕ) → fits_in d n ≡ true → (d ≤ n) × (d + 1 ≡ n → ⊥)
unfolding fits_in
fits-facts d n e = let f = all-each (fit_tests d n) e in (leb-true d n f.0, differ-true (d + 1) n f.1.0)

pub facts-fits : (d n : ℕ) → (d ≤ n) × (d + 1 ≡ n → ⊥) → fits_in d n ≡ true
unfolding fits_in
facts-fits d n f = each_all (fit_tests d n) (le-leb d n f.0, (rw (ne_eqb (d + 1) n f.1), tt))

pub not-fits : (d n : ℕ) → ((d ≤ n) × (d + 1 ≡ n → ⊥) → ⊥) → fits_in d n ≡ false
not-fits d n h = sym (fails (fits_in d n) (λ e. h (fits-facts d n e)))

-- ---- a fair job
pub fair-facts : (j : Job) (n : ℕ) → fair j n ≡ true → (j.slot_size ≡ n) × Fair j
unfolding fair
fair-facts j n e =
    let t = all-each (fair_tests j n) e in
    let s = size-facts n t.1.0 in
    let f = fits-facts j.descriptor_size n t.1.1.1.0 in
    let i = eqb-true j.slot_size n t.0 in
    let l = leb-true 21 j.descriptor_size t.1.1.0 in
    let m = leb-true j.stores_made (n + 2) t.1.1.1.1.0 in
    (i, omega arith)

pub facts-fair : (j : Job) (n : ℕ) → (j.slot_size ≡ n) × Fair j → fair j n ≡ true
unfolding fair
facts-fair j n f =
    each_all (fair_tests j n)
    (eq-eqb _ n f.0, (facts-size n (omega arith), (le-leb 21 _ f.1.least, (facts-fits _ n (omega arith), (le-leb _ (n + 2) (omega arith), tt)))))

-- a job of which one fact is false is not fair
pub unfair : (j : Job) (n : ℕ) → ((j.slot_size ≡ n) × Fair j → ⊥) → false ≡ fair j n
unfair j n h = fails (fair j n) (λ e. h (fair-facts j n e))

-- fairness does not look at the staged bytes
pub fair-bare : (staged : List ℕ) (n d k have : ℕ) → fair (job_of [] n d k) have ≡ fair (job_of staged n d k) have
unfolding fair
fair-bare staged n d k have = refl
