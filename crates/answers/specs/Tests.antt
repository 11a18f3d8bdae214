-- Lists of tests, of which the first that holds is told. Assumes nothing.
-- `first_from`  its place, counted from a number
-- `first_of`    its place, counted from 1
-- `place_in`    a place, where 0 is none
use Rattle.std.specs.Prelude.{ℕ, suc, List, [], ◌∷◌, Bool, Option, Some, None, eqb}
use Rattle.wire.specs.Flags.{when}

-- the place, counted from p, of the first test that holds; 0 if none does
abbrev pub first_from : ℕ → List Bool → ℕ
first_from p [] = 0
first_from p (t ∷ ts) = when t p (first_from (suc p) ts)

abbrev pub first_of : List Bool → ℕ
first_of tests = first_from 1 tests

abbrev pub place_in : ℕ → Option ℕ
place_in p = when (eqb p 0) None (Some p)
