-- A digest of numbers. It is below 2 ^ 32, as its modulus is. Assumes nothing.
-- `digest_next`  the digest with one number more
-- `digest_of`    the digest with all numbers of a list more
use Rattle.std.specs.Prelude.{ℕ, ◌+◌, ◌*◌, ◌%◌, List}
use Rattle.std.specs.List.{fold}

abbrev pub digest_next : ℕ → ℕ → ℕ
digest_next d n = (d * 65_599 + n + 1) % 4_294_967_291

abbrev pub digest_of : ℕ → List ℕ → ℕ
digest_of d ns = fold digest_next d ns
