-- What the wire does not carry of a record, begin does not look at: its answer, and its job, are those for what the wire carries, of every record and slot.
-- Assumes nothing.
use mathlib.Core.Path.{◌≡◌, refl, ap}
use mathlib.Core.List.{List}
use mathlib.Core.Bool.{Bool, true, false}
use Prim.Native.Nat.{ℕ}
use lib.ListN.{length}
use lib.Dec.{eqb}
use borrow.Author.Tests.{eqb-true}
use Rattle.wire.specs.Flags.{when}
use Rattle.s2xv2.specs.declared.record.S2Xv2SatelliteDeliverySystem.{S2Xv2SatelliteDeliverySystem}
use Rattle.answers.specs.Answer.{number_of}
use Rattle.s2xv2.specs.Carried.{carried}
use Rattle.s2xv2.proofs.Ignored.{same-inconsistency, same_length, same-unwritable, same-encode}
use Rattle.job.specs.declared.job.Job.{Job}
use Rattle.begin.specs.Begin.{Begins, new_job, no_job, descriptor_of, stage_told, fit_told, record_told, begin_told, begin_of}
use Rattle.demand3.proofs.Accepts.{accepted}

module _ (s : List ℕ) (r : S2Xv2SatelliteDeliverySystem) (tail : List ℕ) where
  told-alike : begin_told s (carried r) tail ≡ begin_told s r tail
  unfolding begin_told record_told fit_told stage_told
  told-alike = rw (same-inconsistency r, same_length r tail, same-unwritable r)

  pub begin-ignores : begin_of s (carried r) tail ≡ begin_of s r tail
  unfolding begin_of
  begin-ignores =
      rw told-alike (ap {B = Begins} (λ (j : Job). record { told = begin_told s r tail; job = j }) (go (eqb (number_of (begin_told s r tail)) 0) refl))
    where
      go : (c : Bool) → eqb (number_of (begin_told s r tail)) 0 ≡ c
          → when c (new_job (length s) (descriptor_of (carried r) tail)) no_job ≡ when c (new_job (length s) (descriptor_of r tail)) no_job
      go true e = rw (same-encode r tail (accepted s r tail (eqb-true _ _ e)).writable)
      go false e = refl
