-- The form of document 01, for the one statement that its slots read as they did. Assumes nothing.
-- `good_first`     the first descriptor is stuffing, or one of ours
-- `stuffed_tests`  the tests of stuffing behind a descriptor
-- `good_rest`      a descriptor ends the slot, or stuffing behind it does
-- `form01`         a slot is in that form
use Rattle.std.specs.Prelude.{ℕ, ◌+◌, List, [], ◌∷◌, Bool, ◌||◌, length, eqb}
use Rattle.form.specs.Envelope.{stuffing_tag}
use Rattle.form.specs.Form.{byte_at, all, good_size}
use Rattle.form.specs.Bytewise.{ours_at}

unfoldable pub good_first : List ℕ → Bool
good_first s = eqb (byte_at s 0) stuffing_tag || ours_at s 0

-- a descriptor that ends at e ends the slot, or one stuffing descriptor behind it does
abbrev pub stuffed_tests : List ℕ → ℕ → List Bool
stuffed_tests s e = eqb (byte_at s e) stuffing_tag ∷ eqb (e + 2 + byte_at s (e + 1)) (length s) ∷ []

unfoldable pub good_rest : List ℕ → ℕ → Bool
good_rest s e = eqb e (length s) || all (stuffed_tests s e)

unfoldable pub form01 : List ℕ → Bool
form01 s = all (good_size (length s) ∷ good_first s ∷ good_rest s (byte_at s 1 + 2) ∷ [])
