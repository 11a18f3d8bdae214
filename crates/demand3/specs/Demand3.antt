-- What demand 3 claims. Assumes nothing.
-- `Ready`        a slot is in good form, and a record is one that the writer accepts and that fits
-- `job_stores`   the stores of the job that is begun there
-- `holds`        what a slot shows that holds a record and its tail
-- `after_first`  what a slot reads as after the first store alone
-- `reads_after`  what a slot reads as after k of m stores
-- `due`          that for the stores of a job
use Rattle.std.specs.Prelude.{ℕ, ◌+◌, ◌≡◌, true, List, [], ◌∷◌, length, ltb, eqb}
use Rattle.wire.specs.Flags.{when}
use Rattle.wire.specs.Widths.{Bytes}
use Rattle.wire.specs.Parts.{sizes}
use Rattle.s2xv2.specs.declared.record.S2Xv2SatelliteDeliverySystem.{S2Xv2SatelliteDeliverySystem}
use Rattle.s2xv2.specs.Held.{Held}
use Rattle.s2xv2.specs.Encode.{parts_of}
use Rattle.s2xv2.specs.ListA.{inconsistency}
use Rattle.s2xv2.specs.ListB.{unwritable}
use Rattle.s2xv2.specs.Carried.{carried}
use Rattle.stores.specs.declared.store.Store.{Store}
use Rattle.form.specs.Envelope.{tag, envelope_size}
use Rattle.form.specs.Form.{byte_at, good_form}
use Rattle.slot.specs.Read.{Shown, shows_empty, shown}
use Rattle.job.specs.Stores.{stores}
use Rattle.job.specs.Job.{fits_in}
use Rattle.begin.specs.Begin.{size_of, descriptor_of}

-- a slot in good form, a record that lists A and B pass, and a descriptor that fits; `held` and `bytes` are what the types say,
-- and `s2xv2_typed::is_held` and `s2xv2_typed::are_bytes` give them for any record and any tail
pub record Ready (s : List ℕ) (r : S2Xv2SatelliteDeliverySystem) (tail : List ℕ) : Type 0 where
  pub form : good_form s ≡ true
  pub consistent : inconsistency r ≡ 0
  pub writable : unwritable r ≡ 0
  pub fits : fits_in (size_of r tail) (length s) ≡ true
  pub held : Held r
  pub bytes : Bytes tail

-- the stores of the job that is begun there
abbrev pub job_stores : List ℕ → S2Xv2SatelliteDeliverySystem → List ℕ → List Store
job_stores s r tail = stores (length s) (descriptor_of r tail)

-- accepted, with the tail behind the last part; the record with what the wire does not carry at 0; the tail
abbrev pub holds : S2Xv2SatelliteDeliverySystem → List ℕ → Shown
holds r tail = record {
  reading = record { told = 0 ∷ (sizes (parts_of r) + envelope_size) ∷ length tail ∷ []; body = carried r };
  tail = tail;
}

-- empty if its first tag was 0x7F, and as before otherwise
abbrev pub after_first : List ℕ → Shown
after_first s = when (eqb (byte_at s 0) tag) shows_empty (shown s)

-- as before if no store was made, as `first` after the first alone, as the last if all of the m were made, and as empty otherwise
unfoldable pub reads_after : {A : Type 0} → A → A → A → A → ℕ → ℕ → A
reads_after before first empty last m k = when (eqb k 0) before (when (eqb k 1) first (when (ltb k m) empty last))

-- .. for the stores of a job
abbrev pub due : List ℕ → S2Xv2SatelliteDeliverySystem → List ℕ → ℕ → Shown
due s r tail k = reads_after (shown s) (after_first s) shows_empty (holds r tail) (length s + 2) k
