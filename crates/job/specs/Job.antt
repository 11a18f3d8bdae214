-- A job: what it stores, how it goes on, and which jobs begin and steps could give. Assumes nothing.
-- `first_bytes`  the first bytes of a list
-- `descriptor`   the descriptor of a job: the first bytes of what is staged
-- `todo`         all the stores of a job
-- `left`         how many of them are left to make
-- `none`         what stands for a store behind the last
-- `next_store`   the next store
-- `next_stores`  the next so many stores
-- `job_of`       a job made of its parts
-- `with_made`    a job with so many stores made
-- `advanced`     a job with so many more stores made
-- `fit_tests`    the tests of a descriptor's size for a slot
-- `fits_in`      a descriptor fits a slot
-- `fair_tests`   the tests of a job's numbers for a slot
-- `fair`         begin and steps could give a job its numbers
-- `Fair`         the same as facts
use Rattle.std.specs.Prelude.{ℕ, zero, suc, ◌+◌, ◌-◌, ◌≤◌, ◌≡◌, List, [], ◌∷◌, Bool, not, get_or, take, drop, leb, eqb}
use Rattle.stores.specs.declared.store.Store.{Store}
use Rattle.stores.specs.Run.{◌at◌}
use Rattle.form.specs.Form.{all, good_size}
use Rattle.job.specs.declared.job.Job.{Job}
use Rattle.job.specs.Stores.{stores}

-- ---- what a job stores

-- the first d bytes of a list, 0 for those behind its end
unfoldable pub first_bytes : ℕ → List ℕ → List ℕ
first_bytes zero bs = []
first_bytes (suc d) bs = get_or bs 0 0 ∷ first_bytes d (drop 1 bs)

-- its descriptor, and all its stores
abbrev pub descriptor : Job → List ℕ
descriptor j = first_bytes j.descriptor_size j.staged

unfoldable pub todo : Job → List Store
todo j = stores j.slot_size (descriptor j)

-- how many are left to make
abbrev pub left : Job → ℕ
left j = j.slot_size + 2 - j.stores_made

-- the next one, and the next k
abbrev pub none : Store
none = 0 at 0

abbrev pub next_store : Job → Store
next_store j = get_or (todo j) j.stores_made none

abbrev pub next_stores : Job → ℕ → List Store
next_stores j k = take k (drop j.stores_made (todo j))

-- ---- a job as it goes on

abbrev pub job_of : List ℕ → ℕ → ℕ → ℕ → Job
job_of staged n d k = record { staged = staged; slot_size = n; descriptor_size = d; stores_made = k }

-- the job with k stores made, and with k more
abbrev pub with_made : Job → ℕ → Job
with_made j k = job_of j.staged j.slot_size j.descriptor_size k

abbrev pub advanced : Job → ℕ → Job
advanced j k = with_made j (j.stores_made + k)

-- ---- which jobs begin and steps could give

-- a descriptor of d bytes fills a slot of n, or leaves two bytes or more
abbrev pub fit_tests : ℕ → ℕ → List Bool
fit_tests d n = leb d n ∷ not (eqb (d + 1) n) ∷ []

unfoldable pub fits_in : ℕ → ℕ → Bool
fits_in d n = all (fit_tests d n)

-- for a slot of n bytes: the sizes and the stores made; the staged bytes are not judged
abbrev pub fair_tests : Job → ℕ → List Bool
fair_tests j n =
    eqb j.slot_size n
    ∷ good_size n
    ∷ leb 21 j.descriptor_size
    ∷ fits_in j.descriptor_size n
    ∷ leb j.stores_made (n + 2)
    ∷ []

unfoldable pub fair : Job → ℕ → Bool
fair j n = all (fair_tests j n)

-- the same as facts, for the job's own slot
pub record Fair (j : Job) : Type 0 where
  pub low : 21 ≤ j.slot_size
  pub high : j.slot_size ≤ 257
  pub least : 21 ≤ j.descriptor_size
  pub within : j.descriptor_size ≤ j.slot_size
  pub gap : j.descriptor_size + 1 ≡ j.slot_size → ⊥
  pub count : j.stores_made ≤ j.slot_size + 2
