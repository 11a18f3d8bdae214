-- The order of begin's answers, each pair of neighbours: 6, 12, 3, 2, 7, 4. Each is told whatever is wrong behind it.
-- Assumes nothing.
use mathlib.Core.Path.{◌≡◌, sym, ◌∙◌}
use mathlib.Core.Bool.{true, false}
use mathlib.Core.List.{List, [], ◌∷◌}
use Prim.Native.Nat.{ℕ, ◌≤◌, ◌<◌}
use borrow.Author.Tests.{lt-ltb}
use lib.ListN.{length}
use Rattle.s2xv2.specs.declared.record.S2Xv2SatelliteDeliverySystem.{S2Xv2SatelliteDeliverySystem}
use Rattle.answers.specs.Answer.{saturated}
use Rattle.s2xv2.specs.Encode.{encoded_length}
use Rattle.s2xv2.specs.ListA.{inconsistency}
use Rattle.s2xv2.specs.ListB.{unwritable}
use Rattle.form.specs.Form.{good_form, form_of}
use Rattle.form.specs.declared.good.Form.TheVariants as F
use Rattle.form.proofs.Answers.{tells-size}
use Rattle.job.specs.Job.{fits_in}
use Rattle.begin.specs.Begin.{size_of, stage_told, fit_told, record_told, begin_told}
use Rattle.begin.proofs.Telling.{told-form, told-record, told_fit}

module _ (s : List ℕ) (r : S2Xv2SatelliteDeliverySystem) (tail : List ℕ) where
  -- 6 for the size, whatever the bytes, the record and the tail
  pub told-6 : ((21 ≤ length s) × (length s ≤ 257) → ⊥) → begin_told s r tail ≡ 6 ∷ []
  told-6 n = sym (told-form s r tail F.Size (tells-size s n))

  -- 12 for the form, whatever the record and the tail
  pub told-12 : (o : ℕ) → form_of s ≡ F.Broken o → begin_told s r tail ≡ 12 ∷ o ∷ []
  told-12 o e = sym (told-form s r tail (F.Broken o) (sym e))

  module _ (form : good_form s ≡ true) where
    -- 3 for a record that contradicts itself, whatever its length and values
    pub told-3 : 0 < inconsistency r → begin_told s r tail ≡ 3 ∷ inconsistency r ∷ []
    unfolding record_told
    told-3 h = rw (← told-record s r tail form, lt-ltb 0 (inconsistency r) h)

    module _ (a : inconsistency r ≡ 0) where
      -- 2 for the length, whatever the values
      pub told-2 : 4096 < encoded_length r tail → begin_told s r tail ≡ 2 ∷ saturated (encoded_length r tail) ∷ []
      unfolding record_told
      told-2 h = rw (← told-record s r tail form, a, lt-ltb 4096 (encoded_length r tail) h)

      module _ (l : encoded_length r tail ≤ 4096) where
        fit : fit_told (length s) r tail ≡ begin_told s r tail
        fit = told_fit (length s) r tail a l ∙ told-record s r tail form

        -- 7 for the size of the descriptor, whatever the values
        pub told-7 : fits_in (size_of r tail) (length s) ≡ false → begin_told s r tail ≡ 7 ∷ size_of r tail ∷ []
        unfolding fit_told
        told-7 f = rw (← fit, f)

        -- 4 for a value that the wire cannot carry, at the last
        pub told-4 : fits_in (size_of r tail) (length s) ≡ true → 0 < unwritable r → begin_told s r tail ≡ 4 ∷ unwritable r ∷ []
        unfolding fit_told stage_told
        told-4 f h = rw (← fit, f, lt-ltb 0 (unwritable r) h)
