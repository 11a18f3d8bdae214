-- Demand 3 refuses the stores of a job in another order.
-- Assumes nothing.
-- The slot is one of 25 bytes that holds a body of 18 zeros, with 4 bytes of stuffing behind it, and the job is to store the same record:
-- with its first two stores exchanged the slot has, after one store, the stuffing as a tail, and so it has before the last store with the
-- last two exchanged.
use mathlib.Core.Path.{◌≡◌, refl, sym, ap, ◌∙◌}
use mathlib.Core.List.{List, [], ◌∷◌, ◌++◌}
use Prim.Native.Nat.{ℕ}
use native.Mathlib.Omega.{arith}
use lib.ListN.{length, take, drop, replicate}
use Rattle.s2xv2.specs.Default.{default_record}
use Rattle.s2xv2.specs.Encode.{encode, encoded_length, parts_of, byte_parts, scrambling_parts, bond_parts, superframe_parts}
use Rattle.s2xv2.specs.Read.{read_told, present_in, body_size}
use Rattle.s2xv2.specs.Table144c.{mode_of}
use Rattle.stores.specs.declared.store.Store.{Store}
use Rattle.stores.specs.Run.{run, upwards}
use Rattle.form.specs.Envelope.{stuffing, holding}
use Rattle.form.specs.Walk.{walk_from, descriptors}
use Rattle.form.specs.Form.{good_size, is_ours, first_ours, ours, breaks_from, breaks, form_of}
use Rattle.job.specs.Stores.{behind, covered, stores}
use Rattle.slot.specs.Read.{Shown, shows_body, shown, ReadsAs}
use Rattle.demand3.specs.Demand3.{job_stores, reads_after, due}

-- the slot, and the stores of the job
abbrev before : List ℕ
before = holding 25 (replicate 18 0)

abbrev its : List Store
its = job_stores before default_record []

-- what demand 3 says of some stores made on that slot
abbrev Demanded : List Store → Type 0
Demanded ps = (k : ℕ) → ReadsAs (run (take k ps) before) (due before default_record [] k)

-- the numbers that a slot with a tail of 4 bytes tells are not those of an empty one
never-empty : (ps : List Store) (k : ℕ) → (shown (run (take k ps) before)).reading.told ≡ 0 ∷ 21 ∷ 4 ∷ [] → (due before default_record [] k).reading.told ≡ 0 ∷ []
    → Demanded ps → ⊥
never-empty ps k e d h = let z : ◌≡◌ {A = ℕ} 3 1 = ap length (sym e ∙ ap (λ (x : Shown). x.reading.told) (h k).reads ∙ d) in omega arith

-- With its first two stores exchanged a job does not meet demand 3 ..
pub first-two-exchanged : Demanded (take 1 (drop 1 its) ++ (take 1 its ++ drop 2 its)) → ⊥
unfolding run upwards stores covered behind holding stuffing shown shows_body reads_after form_of breaks breaks_from good_size is_ours first_ours ours walk_from descriptors default_record encode encoded_length parts_of byte_parts scrambling_parts bond_parts superframe_parts read_told present_in body_size mode_of
first-two-exchanged = never-empty (take 1 (drop 1 its) ++ (take 1 its ++ drop 2 its)) 1 refl refl

-- .. nor with its last two exchanged.
pub last-two-exchanged : Demanded (take 25 its ++ (drop 26 its ++ take 1 (drop 25 its))) → ⊥
unfolding run upwards stores covered behind holding stuffing shown shows_body reads_after form_of breaks breaks_from good_size is_ours first_ours ours walk_from descriptors default_record encode encoded_length parts_of byte_parts scrambling_parts bond_parts superframe_parts read_told present_in body_size mode_of
last-two-exchanged = never-empty (take 25 its ++ (drop 26 its ++ take 1 (drop 25 its))) 26 refl refl
