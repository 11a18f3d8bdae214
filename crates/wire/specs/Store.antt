-- What a run of stores leaves in a lent list. Assumes nothing.
-- `stored_from`  a list with some bytes stored one after the other from a place on
use Rattle.std.specs.Prelude.{ℕ, ◌+◌, List, [], ◌∷◌, set}

-- l with the bytes vs stored one after the other from p on
unfoldable pub stored_from : List ℕ → ℕ → List ℕ → List ℕ
stored_from l p [] = l
stored_from l p (v ∷ vs) = stored_from (set l p v) (p + 1) vs
