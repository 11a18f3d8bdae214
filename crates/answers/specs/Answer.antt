-- The numbers that a caller may see (docs/ANSWERS.md), the answer's own first, then what it tells. No other definition
-- gives a refusal's number, but `step_told` of `job` for 8. Assumes nothing.
-- `numbers`    of a refusal
-- `told`       of an answer
-- `number_of`  the first of them
-- `saturated`  a length as answer 2 tells it
-- `told_now`   the numbers with their count, as they stand in an array
use Rattle.std.specs.Prelude.{ℕ, List, [], ◌∷◌, length, get_or, ltb}
use Rattle.wire.specs.Flags.{when}
use Rattle.answers.specs.declared.answer.Refusal.{Refusal}
use Rattle.answers.specs.declared.answer.Refusal.TheVariants as R
use Rattle.answers.specs.declared.answer.Told.{Told}
use Rattle.std.specs.Prelude.{Ok, Err, Result}

abbrev pub numbers : Refusal → List ℕ
numbers (R.Short place need have least) = 1 ∷ place ∷ need ∷ have ∷ least ∷ []
numbers (R.Long length) = 2 ∷ length ∷ []
numbers (R.Inconsistent place) = 3 ∷ place ∷ []
numbers (R.Field place) = 4 ∷ place ∷ []
numbers (R.Room need have) = 5 ∷ need ∷ have ∷ []
numbers R.Slot = 6 ∷ []
numbers (R.NoFit size) = 7 ∷ size ∷ []
numbers (R.SlotForm offset) = 12 ∷ offset ∷ []

abbrev pub told : Result ℕ Refusal → List ℕ
told (Ok result) = 0 ∷ result ∷ []
told (Err why) = numbers why

-- the number of an answer
abbrev pub number_of : List ℕ → ℕ
number_of told = get_or told 0 0

-- a length, with 65,535 for all above that
abbrev pub saturated : ℕ → ℕ
saturated n = when (ltb 65535 n) 65535 n

-- five numbers, 0 where there are fewer
abbrev pub told_now : List ℕ → Told
told_now l = record { count = length l; numbers = get_or l 0 0 ∷ get_or l 1 0 ∷ get_or l 2 0 ∷ get_or l 3 0 ∷ get_or l 4 0 ∷ [] }
