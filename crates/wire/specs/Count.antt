-- A count as it stands on the wire. Assumes nothing.
-- `less_one`  the count minus one
use Rattle.std.specs.Prelude.{ℕ, zero, suc}

-- the count minus one, with the wrap of a byte
abbrev pub less_one : ℕ → ℕ
less_one zero = 255
less_one (suc n) = n
