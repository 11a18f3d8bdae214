-- The cases at the edges that are slots, in the same table as those that are bodies: what the definitions give at each row is what is due there.
-- Assumes nothing.
use mathlib.Core.Path.{◌≡◌, refl}
use mathlib.Core.List.{List, [], ◌∷◌, ◌++◌}
use mathlib.Core.Bool.{true}
use Prim.Native.Nat.{ℕ}
use lib.ListN.{length}
use Rattle.s2xv2.specs.declared.record.S2Xv2SatelliteDeliverySystem.{S2Xv2SatelliteDeliverySystem}
use Rattle.s2xv2.specs.Default.{default_record}
use Rattle.s2xv2.specs.Encode.{encode, encoded_length, parts_of, byte_parts, scrambling_parts, bond_parts, superframe_parts}
use Rattle.s2xv2.specs.Read.{read_told, present_in, body_size, least_total, record_at, superframe_at}
use Rattle.s2xv2.specs.Table144c.{mode_of}
use Rattle.s2xv2.specs.ListA.{inconsistency}
use Rattle.s2xv2.specs.ListB.{unwritable}
use Rattle.s2xv2.specs.Write.{write_told}
use Rattle.s2xv2.proofs.Cases.{Row, ◌gives◌, right, table}
use Rattle.form.specs.Envelope.{stuffing}
use Rattle.form.specs.Walk.{walk_from, descriptors}
use Rattle.form.specs.Form.{good_size, is_ours, good_form, first_ours, ours, breaks_from, breaks, form_of}
use Rattle.job.specs.Job.{fits_in, fair}
use Rattle.job.specs.Step.{step_of}
use Rattle.begin.specs.Begin.{stage_told, fit_told, record_told, begin_told, begin_of}
use Rattle.begin.proofs.Telling.{told-record}

-- the answer of begin, for the record whose body is 18 bytes of 0, on an empty slot of n bytes
abbrev begin : ℕ → List ℕ
begin n = begin_told (stuffing n) default_record []

-- .. and how many stores its job makes where it may make all
abbrev makes : ℕ → List ℕ
makes n = (step_of (begin_of (stuffing n) default_record []).job n 1000).made ∷ []

abbrev pub slot_table : List Row
slot_table =
    begin 21 gives (0 ∷ 23 ∷ [])
    ∷ makes 21 gives (23 ∷ [])
    ∷ begin 22 gives (7 ∷ 21 ∷ [])
    ∷ makes 22 gives (0 ∷ [])
    ∷ []

-- Every row of the whole table, bodies and slots, is right.
pub cases : right (table ++ slot_table) ≡ true
unfolding begin_told record_told fit_told stage_told begin_of step_of fair fits_in form_of breaks breaks_from good_size is_ours first_ours ours walk_from descriptors stuffing default_record encode encoded_length parts_of byte_parts scrambling_parts bond_parts superframe_parts inconsistency unwritable read_told present_in body_size least_total record_at superframe_at mode_of write_told
cases = refl

-- The two rows hold of every slot in good form and every record with a body of 18 bytes that lists A and B pass.
module _ (s : List ℕ) (r : S2Xv2SatelliteDeliverySystem) (tail : List ℕ) (form : good_form s ≡ true) (a : inconsistency r ≡ 0) (l : encoded_length r tail ≡ 18) where
  pub slot-22 : length s ≡ 22 → begin_told s r tail ≡ 7 ∷ 21 ∷ []
  unfolding record_told fit_told stage_told fits_in
  slot-22 n = rw (← told-record s r tail form, a, l, n)

  pub slot-21 : unwritable r ≡ 0 → length s ≡ 21 → begin_told s r tail ≡ 0 ∷ 23 ∷ []
  unfolding record_told fit_told stage_told fits_in
  slot-21 b n = rw (← told-record s r tail form, a, l, n, b)
