-- Slots at the edges of good form, by one computed test: what `form_of` tells of each is what is due there.
-- Assumes nothing.
use mathlib.Core.Path.{◌≡◌, refl}
use mathlib.Core.List.{List, [], ◌∷◌, ◌++◌}
use mathlib.Core.Bool.{Bool, true}
use Prim.Native.Nat.{ℕ, zero, suc, ◌+◌}
use lib.ListN.{replicate}
use lib.Dec.{eqb}
use Rattle.form.specs.Envelope.{stuffing}
use Rattle.form.specs.Walk.{walk_from, descriptors}
use Rattle.form.specs.Form.{all, good_size, is_ours, first_ours, ours, breaks_from, breaks, form_of}
use Rattle.form.specs.declared.good.Form.{Form}
use Rattle.form.specs.declared.good.Form.TheVariants as F

-- two forms are the same: each has a number of its own, for places up to the largest slot's
abbrev code : Form → ℕ
code F.Size = 0
code F.Empty = 1
code (F.Broken at) = 1000 + at
code (F.Ours at) = 2000 + at

abbrev same : Form → Form → Bool
same a b = eqb (code a) (code b)

-- n bytes of 0
abbrev zeros : ℕ → List ℕ
zeros n = replicate n 0

-- n stuffing descriptors of two bytes
abbrev pieces : ℕ → List ℕ
pieces zero = []
pieces (suc n) = 0x42 ∷ 0 ∷ pieces n

-- In form: one stuffing descriptor, the least and the largest; 128 of two bytes; one that holds what would be ours; ours alone, and of length 1; ours behind
-- stuffing and in front of it; ours last, of length 1.
abbrev pub in_form : List Bool
in_form =
    same (form_of (stuffing 21)) F.Empty
    ∷ same (form_of (stuffing 257)) F.Empty
    ∷ same (form_of (pieces 128)) F.Empty
    ∷ same (form_of (0x42 ∷ 3 ∷ 0x7F ∷ 1 ∷ 0x24 ∷ stuffing 16)) F.Empty
    ∷ same (form_of (0x7F ∷ 19 ∷ 0x24 ∷ zeros 18)) (F.Ours 0)
    ∷ same (form_of (0x7F ∷ 1 ∷ 0x24 ∷ stuffing 18)) (F.Ours 0)
    ∷ same (form_of (stuffing 4 ++ (0x7F ∷ 2 ∷ 0x24 ∷ 0 ∷ stuffing 13))) (F.Ours 4)
    ∷ same (form_of (stuffing 18 ++ (0x7F ∷ 1 ∷ 0x24 ∷ []))) (F.Ours 18)
    ∷ []

-- Of no size: no bytes, a byte less, a byte more. One byte left; one that runs past the end, at the start and behind another; a foreign tag, at the start
-- and in the middle; another third byte; length 0, with the third byte of ours behind it; a second one of ours, a second 0x7F that is none, and one that
-- runs past the end; a foreign tag that does; length 0 as the last two bytes; the largest offset.
abbrev pub out_of_form : List Bool
out_of_form =
    same (form_of []) F.Size
    ∷ same (form_of (stuffing 20)) F.Size
    ∷ same (form_of (stuffing 258)) F.Size
    ∷ same (form_of (stuffing 20 ++ (0x42 ∷ []))) (F.Broken 20)
    ∷ same (form_of (0x42 ∷ 20 ∷ zeros 19)) (F.Broken 0)
    ∷ same (form_of (0x42 ∷ 0 ∷ 0x7F ∷ 18 ∷ 0x24 ∷ zeros 16)) (F.Broken 2)
    ∷ same (form_of (0x43 ∷ 19 ∷ zeros 19)) (F.Broken 0)
    ∷ same (form_of (0x42 ∷ 0 ∷ 0x48 ∷ 0 ∷ stuffing 17)) (F.Broken 2)
    ∷ same (form_of (0x7F ∷ 19 ∷ 0x25 ∷ zeros 18)) (F.Broken 0)
    ∷ same (form_of (0x42 ∷ 0 ∷ 0x7F ∷ 0 ∷ 0x24 ∷ stuffing 16)) (F.Broken 2)
    ∷ same (form_of (0x7F ∷ 1 ∷ 0x24 ∷ 0x7F ∷ 1 ∷ 0x24 ∷ stuffing 15)) (F.Broken 3)
    ∷ same (form_of (0x7F ∷ 1 ∷ 0x24 ∷ 0x7F ∷ 1 ∷ 0x25 ∷ stuffing 15)) (F.Broken 3)
    ∷ same (form_of (0x7F ∷ 1 ∷ 0x24 ∷ 0x7F ∷ 17 ∷ 0x24 ∷ zeros 15)) (F.Broken 3)
    ∷ same (form_of (0x43 ∷ 20 ∷ zeros 19)) (F.Broken 0)
    ∷ same (form_of (stuffing 19 ++ (0x7F ∷ 0 ∷ []))) (F.Broken 19)
    ∷ same (form_of (stuffing 256 ++ (0x42 ∷ []))) (F.Broken 256)
    ∷ []

-- Every one is as it is due.
pub cases : (all in_form ≡ true) × (all out_of_form ≡ true)
unfolding form_of good_size breaks breaks_from is_ours walk_from descriptors first_ours ours stuffing
cases = (refl, refl)
