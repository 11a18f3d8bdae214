-- A part of the wire is a list of widths, in wire order: reading cuts fields along it, writing packs values along it.
-- All are `abbrev`s: at numerals they compute to arithmetic of bytes. Assumes nothing.
-- `total`      its size in bits
-- `size`       its size in bytes
-- `cut_from`   the fields that are cut from some bits on
-- `cut`        the fields that are cut from a byte on
-- `Over`       the type of a function of as many numbers as there are widths
-- `give`       such a function at the values of a list
-- `read`       such a function at the fields that are cut from a byte on
-- `be`         a number as bytes
-- `beside`     a field put behind bits that wait for their byte
-- `pack_from`  the values packed behind such bits
-- `pack`       the values packed into bytes
-- `wide`       a value takes more than so many bits
-- `Fit`        values are as many and as small as the widths ask
-- `Bytes`      a list holds bytes
use Rattle.std.specs.Prelude.{ℕ, zero, suc, ◌+◌, ◌*◌, ◌/◌, ◌%◌, ◌^◌, ◌<◌, List, [], ◌∷◌, ◌++◌, Bool, get_or, drop, eqb, leb}
use Rattle.wire.specs.Flags.{when}
use Rattle.wire.specs.Bits.{bits}

-- how many bits, and how many bytes, fields of these widths take
abbrev pub total : List ℕ → ℕ
total [] = 0
total (w ∷ ws) = w + total ws

abbrev pub size : List ℕ → ℕ
size ws = total ws / 8

-- ---- reading

-- the fields that stand one after the other, the first o bits after the start of byte a
abbrev pub cut_from : List ℕ → ℕ → ℕ → List ℕ → List ℕ
cut_from s a o [] = []
cut_from s a o (w ∷ ws) = bits s a o w ∷ cut_from s a (o + w) ws

-- the fields of the part that starts with byte a
abbrev pub cut : List ℕ → ℕ → List ℕ → List ℕ
cut s a ws = cut_from s a 0 ws

-- a function of as many numbers as there are widths
abbrev pub Over : List ℕ → Type 0 → Type 0
Over [] X = X
Over (w ∷ ws) X = ℕ → Over ws X

-- such a function at the values of a list, in their order
abbrev pub give : {X : Type 0} → (ws : List ℕ) → Over ws X → List ℕ → X
give [] f vs = f
give (w ∷ ws) f vs = give ws (f (get_or vs 0 0)) (drop 1 vs)

-- such a function at the fields of the part that starts with byte a
abbrev pub read : {X : Type 0} → (ws : List ℕ) → List ℕ → ℕ → Over ws X → X
read ws s a f = give ws f (cut s a ws)

-- ---- writing

-- the lowest n bytes of v, the highest of them first
abbrev pub be : ℕ → ℕ → List ℕ
be zero v = []
be (suc zero) v = v % 256 ∷ []
be (suc (suc n)) v = v / 256 ^ suc n % 256 ∷ be (suc n) v

-- a field of w bits that holds v, behind k bits that hold n
abbrev pub beside : ℕ → ℕ → ℕ → ℕ → ℕ
beside zero n w v = v
beside (suc k) n w v = n * 2 ^ w + v

-- behind k bits that hold n, each value is put beside those before it; as soon as they fill whole bytes, these are written
abbrev pub pack_from : ℕ → ℕ → List ℕ → List ℕ → List ℕ
pack_from k n [] vs = []
pack_from k n (w ∷ ws) vs =
    when (eqb ((k + w) % 8) 0)
    (be ((k + w) / 8) (beside k n w (get_or vs 0 0)) ++ pack_from 0 0 ws (drop 1 vs))
    (pack_from (k + w) (beside k n w (get_or vs 0 0)) ws (drop 1 vs))

-- the bytes that hold the values side by side
abbrev pub pack : List ℕ → List ℕ → List ℕ
pack ws vs = pack_from 0 0 ws vs

-- v takes more than w bits
abbrev pub wide : ℕ → ℕ → Bool
wide w v = leb (2 ^ w) v

-- there are as many values as widths, and each is below 2 to its width
abbrev pub Fit : List ℕ → List ℕ → Type 0
Fit [] [] = Unit
Fit [] (v ∷ vs) = ⊥
Fit (w ∷ ws) [] = ⊥
Fit (w ∷ ws) (v ∷ vs) = (v < 2 ^ w) × Fit ws vs

-- every element is a byte, as a slice of u8 always has it: `s2xv2_typed::are_bytes` gives it for any slice
abbrev pub Bytes : List ℕ → Type 0
Bytes s = (i : ℕ) → get_or s i 0 < 256
