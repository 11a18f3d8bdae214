-- The next store of a fair job, by how many are made: one law for each way through the code. The list of stores is looked up at that number.
-- Assumes nothing.
use mathlib.Core.Path.{◌≡◌, refl, sym, ap, ◌∙◌}
use Prim.Native.Nat.{ℕ, ◌+◌, ◌-◌, ◌≤◌, ◌<◌}
use native.Mathlib.Omega.{arith}
use mathlib.Core.Bool.{Bool, true, false}
use borrow.Author.Tests.{eqb-true, eqb-false}
use lib.ListN.{length, get_or}
use lib.Dec.{eqb}
use Rattle.wire.specs.Flags.{when}
use Rattle.stores.specs.declared.store.Store.{Store}
use Rattle.stores.specs.Run.{◌at◌}
use Rattle.stores.proofs.Laws.{within-at}
use Rattle.form.specs.Envelope.{tag, stuffing_tag, stuffing}
use Rattle.job.specs.declared.job.Job.{Job}
use Rattle.job.specs.Stores.{behind, covered, stores}
use Rattle.job.specs.Job.{descriptor, todo, next_store, none, Fair}
use Rattle.job.proofs.Lists.{first-length, first-at, behind-own, behind-stuffing, stores-length, stores-between, stores-size, stores-tag, stores-within}

-- equal jobs have equal numbers
pub numbers : {i j : Job} → i ≡ j → (i.slot_size ≡ j.slot_size) × (i.descriptor_size ≡ j.descriptor_size) × (i.stores_made ≡ j.stores_made)
numbers e = (ap (λ (j : Job). j.slot_size) e, ap (λ (j : Job). j.descriptor_size) e, ap (λ (j : Job). j.stores_made) e)

module _ (j : Job) (f : Fair j) where
  pub size_is : length (descriptor j) ≡ j.descriptor_size
  size_is = first-length j.descriptor_size j.staged

  two : 2 ≤ length (descriptor j)
  two = rw size_is (omega arith)

  fits : length (descriptor j) ≤ j.slot_size
  fits = rw size_is f.within

  -- how many stores there are
  pub todo-length : length (todo j) ≡ j.slot_size + 2
  unfolding todo
  todo-length = stores-length j.slot_size (descriptor j) two fits

  -- each store is inside the slot
  pub next-inside : j.stores_made < j.slot_size + 2 → (next_store j).place < j.slot_size
  unfolding todo
  next-inside h =
      within-at 0 j.slot_size (todo j) j.stores_made none (stores-within j.slot_size (descriptor j) two fits) (rw todo-length h)

  at-number : (k : ℕ) → j.stores_made ≡ k → next_store j ≡ get_or (stores j.slot_size (descriptor j)) k none
  unfolding todo
  at-number k e = ap (λ (m : ℕ). get_or (stores j.slot_size (descriptor j)) m none) e

  -- the first two
  pub next-cover : j.stores_made ≡ 0 → stuffing_tag at 0 ≡ next_store j
  unfolding stores covered
  next-cover e = sym (at-number 0 e)

  pub next-over : j.stores_made ≡ 1 → (j.slot_size - 2) at 1 ≡ next_store j
  unfolding stores covered
  next-over e = sym (at-number 1 e)

  -- those between: a byte of the descriptor, or of the stuffing
  between : {b : ℕ} → b ≡ get_or (behind j.slot_size (descriptor j)) (j.stores_made - 2) 0 → 2 ≤ j.stores_made → j.stores_made < j.slot_size
      → b at j.stores_made ≡ next_store j
  between e l h =
      ap {B = Store} (λ (b : ℕ). b at j.stores_made) e
      ∙ sym (at-number j.stores_made refl ∙ stores-between j.slot_size (descriptor j) two fits j.stores_made l h)

  pub next-own : 2 ≤ j.stores_made → j.stores_made < j.descriptor_size → get_or j.staged j.stores_made 0 at j.stores_made ≡ next_store j
  next-own l h =
      between
      (sym (behind-own j.slot_size (descriptor j) two fits j.stores_made l (rw size_is h)
      ∙ first-at j.descriptor_size j.staged j.stores_made h))
      l (omega arith)

  pub next-stuffing : {b : ℕ} → b ≡ get_or (stuffing (j.slot_size - j.descriptor_size)) (j.stores_made - j.descriptor_size) 0
      → j.descriptor_size ≤ j.stores_made → j.stores_made < j.slot_size → b at j.stores_made ≡ next_store j
  next-stuffing e l h =
      between
      (e
      ∙ sym (behind-stuffing j.slot_size (descriptor j) two fits j.stores_made (rw size_is l)
      ∙ ap (λ (d : ℕ). get_or (stuffing (j.slot_size - d)) (j.stores_made - d) 0) size_is))
      (omega arith) h

  -- the last two
  pub next-size : j.stores_made ≡ j.slot_size → (j.descriptor_size - 2) at 1 ≡ next_store j
  next-size e =
      sym (at-number j.slot_size e ∙ stores-size j.slot_size (descriptor j) two fits ∙ ap {B = Store} (λ (d : ℕ). (d - 2) at 1) size_is)

  pub next-tag : j.stores_made ≡ j.slot_size + 1 → tag at 0 ≡ next_store j
  next-tag e = sym (at-number (j.slot_size + 1) e ∙ stores-tag j.slot_size (descriptor j) two fits)

  -- the first two, and the last two
  pub next-first : j.stores_made < 2 → when (eqb j.stores_made 0) (stuffing_tag at 0) ((j.slot_size - 2) at 1) ≡ next_store j
  next-first h = go (eqb j.stores_made 0) refl
    where
      go : (b : Bool) → eqb j.stores_made 0 ≡ b → when b (stuffing_tag at 0) ((j.slot_size - 2) at 1) ≡ next_store j
      go true e = next-cover (eqb-true _ _ e)
      go false e = let d : j.stores_made ≡ 0 → ⊥ = eqb-false _ _ e in next-over (omega (arith, d))

  pub next_last : j.slot_size ≤ j.stores_made → j.stores_made < j.slot_size + 2 → when (eqb j.stores_made j.slot_size) ((j.descriptor_size - 2) at 1) (tag at 0) ≡ next_store j
  next_last l h = go (eqb j.stores_made j.slot_size) refl
    where
      go : (b : Bool) → eqb j.stores_made j.slot_size ≡ b → when b ((j.descriptor_size - 2) at 1) (tag at 0) ≡ next_store j
      go true e = next-size (eqb-true _ _ e)
      go false e = let d : j.stores_made ≡ j.slot_size → ⊥ = eqb-false _ _ e in next-tag (omega (arith, d))
