-- Answer 8 refuses no job that begin and steps could give, and no other is fair: the job of the default record with a tail of zeros on an
-- empty slot has the sizes of any fair job, and one step makes its stores.
-- Assumes nothing.
use mathlib.Core.Path.{◌≡◌, refl, sym, ap, ◌∙◌}
use mathlib.Core.List.{List, [], ◌∷◌}
use mathlib.Core.Bool.{true}
use Prim.Native.Nat.{ℕ, zero, suc, ◌-◌, ◌≤◌}
use native.Mathlib.Omega.{arith}
use lib.ListN.{replicate, length-replicate}
use Rattle.wire.specs.Widths.{Bytes}
use Rattle.s2xv2.specs.Default.{default_record}
use Rattle.s2xv2.specs.Encode.{byte_parts, scrambling_parts, bond_parts, superframe_parts, parts_of, encoded_length}
use Rattle.s2xv2.specs.ListA.{inconsistency}
use Rattle.s2xv2.specs.ListB.{unwritable}
use Rattle.s2xv2.specs.Held.{Held}
use Rattle.form.specs.Envelope.{stuffing}
use Rattle.form.specs.Form.{good_form}
use Rattle.form.proofs.Stuffing.{stuffing-length, stuffing-tag, stuffing-size}
use Rattle.slot.proofs.Laws.{cover}
use Rattle.job.specs.declared.job.Job.{Job}
use Rattle.job.specs.Job.{fair}
use Rattle.job.proofs.Fairness.{fair-facts, facts-fits}
use Rattle.begin.specs.Begin.{size_of}
use Rattle.demand3.specs.Demand3.{Ready}
use Rattle.demand3.specs.Stepping.{Going, begun, stepping}
use Rattle.demand3.proofs.Fold.{size_is}
use Rattle.demand3.proofs.Steps.{after-steps}

-- the tail that makes a descriptor of d bytes
abbrev pub zeros : ℕ → List ℕ
zeros d = replicate (d - 21) 0

zero-bytes : (k : ℕ) → Bytes (replicate k 0)
zero-bytes zero i = omega arith
zero-bytes (suc k) zero = omega arith
zero-bytes (suc k) (suc i) = zero-bytes k i

default-consistent : inconsistency default_record ≡ 0
unfolding inconsistency default_record
default-consistent = refl

default-writable : unwritable default_record ≡ 0
unfolding unwritable default_record
default-writable = refl

default-held : Held default_record
unfolding default_record
default-held = record {
  id = omega arith;
  frequency = omega arith;
  rate = omega arith;
  stream = omega arith;
  timeslice = omega arith;
  first = omega arith;
  second = omega arith;
  block = tt;
}

zeros-size : (d : ℕ) → 21 ≤ d → size_of default_record (zeros d) ≡ d
unfolding encoded_length parts_of byte_parts scrambling_parts bond_parts superframe_parts default_record
zeros-size d h = let l = length-replicate {A = ℕ} (d - 21) 0 in omega arith

empty-form : (n : ℕ) → 21 ≤ n → n ≤ 257 → good_form (stuffing n) ≡ true
empty-form n l h =
    let q = stuffing-length n in
    (cover (stuffing n) (rw q l) (rw q h) (stuffing-tag n 0 refl (omega arith)) (rw (q, stuffing-size n 1 refl (omega arith)) (omega arith))).form

module _ (j : Job) (n : ℕ) (e : fair j n ≡ true) where
  there : Ready (stuffing n) default_record (zeros j.descriptor_size)
  there =
      let f = fair-facts j n e in
      let F = f.1 in
      let z = f.0 in
      record {
        form = empty-form n (omega arith) (omega arith);
        consistent = default-consistent;
        writable = default-writable;
        fits = rw (zeros-size j.descriptor_size F.least, stuffing-length n) (facts-fits j.descriptor_size n (omega arith, λ g. F.gap (g ∙ sym z)));
        held = default-held;
        bytes = zero-bytes (j.descriptor_size - 21);
      }

  -- GIVEN. For every fair job there is a begin, and a step after it, that give a job with its sizes and its number of stores made.
  pub given : let g = stepping (begun (stuffing n) default_record (zeros j.descriptor_size)) (j.stores_made ∷ []) in
      (g.job.slot_size ≡ j.slot_size) × (g.job.descriptor_size ≡ j.descriptor_size) × (g.job.stores_made ≡ j.stores_made)
  given =
      let f = fair-facts j n e in
      let F = f.1 in
      let q = stuffing-length n in
      let a = after-steps there (j.stores_made ∷ []) in (
        ap (λ (g : Going). g.job.slot_size) a ∙ q ∙ sym f.0,
        ap (λ (g : Going). g.job.descriptor_size) a ∙ size_is default_record (zeros j.descriptor_size) ∙ zeros-size j.descriptor_size F.least,
        ap (λ (g : Going). g.job.stores_made) a ∙ omega arith,
      )
