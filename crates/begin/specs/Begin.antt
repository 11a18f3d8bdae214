-- What begin answers, and the job that it gives. Assumes nothing.
-- `staged_size`    how many bytes a job has for its descriptor
-- `padded`         a descriptor as it is staged in these bytes
-- `new_job`        the job that stores a descriptor, with no store made
-- `no_job`         what stands where begin is refused
-- `size_of`        how many bytes the descriptor of a record and its tail takes
-- `descriptor_of`  the bytes of that descriptor
-- `Sized`          what the private functions require of the sizes, and of the record
-- `Staged`         a descriptor that the writer accepts is staged, and this is its size
-- `stage_told`     what is told once the descriptor is known to fit
-- `fit_told`       what is told once its length is known
-- `record_told`    what is told once the slot is known to be in good form
-- `form_told`      what is told of a slot, by its form
-- `begin_told`     what is told of any slot, record and tail
-- `Begins`         an answer in numbers, with the job
-- `begun_seen`     that of what the call returns
-- `answered`       that of what is told, with the job or `no_job`
-- `begin_of`       what begin answers for a slot, a record and its tail
-- `begin_plain`    the same for the record that plain numbers mean
-- `sized_plain`    that once the slot is known to be in good form
-- `sizes_of`       the numbers of a job, as they cross
use Rattle.std.specs.Prelude.{ℕ, ◌+◌, ◌-◌, ◌≤◌, ◌≡◌, List, [], ◌∷◌, ◌++◌, length, replicate, eqb, ltb}
use Rattle.wire.specs.Flags.{when}
use Rattle.s2xv2.specs.declared.record.S2Xv2SatelliteDeliverySystem.{S2Xv2SatelliteDeliverySystem}
use Rattle.answers.specs.Answer.{numbers, told, saturated, number_of}
use Rattle.answers.specs.declared.answer.Refusal.{Refusal}
use Rattle.answers.specs.declared.answer.Refusal.TheVariants as R
use Rattle.s2xv2.specs.Encode.{encode, encoded_length}
use Rattle.s2xv2.specs.ListA.{inconsistency}
use Rattle.s2xv2.specs.ListB.{unwritable}
use Rattle.s2xv2.specs.Write.{write_told}
use Rattle.s2xv2_plain.specs.Input.{meant}
use Rattle.form.specs.Envelope.{envelope, envelope_size}
use Rattle.form.specs.Form.{form_of}
use Rattle.form.specs.declared.good.Form.{Form}
use Rattle.form.specs.declared.good.Form.TheVariants as F
use Rattle.job.specs.declared.job.Job.{Job}
use Rattle.job.specs.Job.{job_of, fits_in}
use Rattle.begin.specs.declared.Begun.{Begun}
use Rattle.std.specs.Prelude.{Ok, Err, Result}

-- how many bytes a job has for its descriptor
abbrev pub staged_size : ℕ
staged_size = 257

-- the descriptor, and 0 after it
unfoldable pub padded : List ℕ → List ℕ
padded ds = ds ++ replicate (staged_size - length ds) 0

-- the job that stores ds in a slot of n bytes, with no store made; and what stands where there is no job
abbrev pub new_job : ℕ → List ℕ → Job
new_job n ds = job_of (padded ds) n (length ds) 0

abbrev pub no_job : Job
no_job = job_of (replicate staged_size 0) 0 0 0

-- how many bytes the descriptor of a record with a tail takes, and its bytes
abbrev pub size_of : S2Xv2SatelliteDeliverySystem → List ℕ → ℕ
size_of r tail = encoded_length r tail + envelope_size

abbrev pub descriptor_of : S2Xv2SatelliteDeliverySystem → List ℕ → List ℕ
descriptor_of r tail = envelope (encode r tail)

-- a descriptor of d bytes for a slot of n: what the private functions require
pub record Sized (n d : ℕ) (r : S2Xv2SatelliteDeliverySystem) (tail : List ℕ) : Type 0 where
  pub slot : (21 ≤ n) × (n ≤ 257)
  pub size : d ≡ size_of r tail
  pub within : encoded_length r tail ≤ 4096
  pub consistent : inconsistency r ≡ 0

-- a descriptor of d bytes that the writer accepts stands in the staged bytes: what the private functions promise
pub record Staged (d : ℕ) (r : S2Xv2SatelliteDeliverySystem) (tail staged : List ℕ) : Type 0 where
  pub size : d ≡ size_of r tail
  pub written : number_of (write_told r tail 254) ≡ 0
  pub bytes : staged ≡ padded (descriptor_of r tail)

-- what is told once the descriptor is known to fit a slot of n bytes: 4, else accepted with the number of stores
unfoldable pub stage_told : ℕ → S2Xv2SatelliteDeliverySystem → List ℕ
stage_told n r = when (ltb 0 (unwritable r)) (numbers (R.Field (unwritable r))) (told (Ok (n + 2)))

-- .. once its length is known: 7 before that
unfoldable pub fit_told : ℕ → S2Xv2SatelliteDeliverySystem → List ℕ → List ℕ
fit_told n r tail = when (fits_in (size_of r tail) n) (stage_told n r) (numbers (R.NoFit (size_of r tail)))

-- .. once the slot is known to be in good form: 3 and 2 before that
unfoldable pub record_told : ℕ → S2Xv2SatelliteDeliverySystem → List ℕ → List ℕ
record_told n r tail =
    when (ltb 0 (inconsistency r)) (numbers (R.Inconsistent (inconsistency r)))
    (when (ltb 4096 (encoded_length r tail)) (numbers (R.Long (saturated (encoded_length r tail)))) (fit_told n r tail))

-- .. of a slot of any form: 6 and 12 before that
abbrev pub form_told : Form → List ℕ → List ℕ
form_told F.Size otherwise = numbers R.Slot
form_told (F.Broken at) otherwise = numbers (R.SlotForm at)
form_told F.Empty otherwise = otherwise
form_told (F.Ours at) otherwise = otherwise

-- 6, 12, 3, 2, 7, 4, in this order, else accepted with the number of stores
unfoldable pub begin_told : List ℕ → S2Xv2SatelliteDeliverySystem → List ℕ → List ℕ
begin_told s r tail = form_told (form_of s) (record_told (length s) r tail)

-- the answer in numbers, and the job
pub record Begins : Type 0 where
  pub told : List ℕ
  pub job : Job

abbrev pub begun_seen : Result Begun Refusal → Begins
begun_seen (Ok b) = record { told = told (Ok b.stores); job = b.job }
begun_seen (Err why) = record { told = told (Err why); job = no_job }

-- the job goes with number 0, and no job with any other
abbrev pub answered : List ℕ → ℕ → S2Xv2SatelliteDeliverySystem → List ℕ → Begins
answered told n r tail = record { told = told; job = when (eqb (number_of told) 0) (new_job n (descriptor_of r tail)) no_job }

-- WHAT BEGIN ANSWERS for a slot, a record and its tail
unfoldable pub begin_of : List ℕ → S2Xv2SatelliteDeliverySystem → List ℕ → Begins
begin_of s r tail = answered (begin_told s r tail) (length s) r tail

-- .. for the record that plain numbers mean, and for one in a slot of n bytes that is known to be in good form
abbrev pub begin_plain : List ℕ → List ℕ → List ℕ → List ℕ → Begins
begin_plain s ws bs tail = begin_of s (meant ws bs) tail

abbrev pub sized_plain : ℕ → List ℕ → List ℕ → List ℕ → Begins
sized_plain n ws bs tail = answered (record_told n (meant ws bs) tail) n (meant ws bs) tail

-- its slot size, its descriptor size, and the stores made
abbrev pub sizes_of : Job → List ℕ
sizes_of j = j.slot_size ∷ j.descriptor_size ∷ j.stores_made ∷ []
