-- The cases at the edges that are to be proved, as one table under one statement: what the definitions give at each row is what is due there.
-- Assumes nothing.
use mathlib.Core.Path.{◌≡◌, refl}
use mathlib.Core.List.{List, [], ◌∷◌, ◌++◌}
use mathlib.Core.Bool.{Bool, true, false}
use Prim.Native.Nat.{ℕ}
use lib.ListN.{replicate, set}
use lib.Dec.{eqb}
use Rattle.wire.specs.Flags.{and}
use Rattle.s2xv2.specs.Table144c.{mode_of}
use Rattle.s2xv2.specs.Default.{default_record}
use Rattle.s2xv2.specs.Read.{present_in, record_from, record_at, superframe_at, body_size, least_total, read_told, read_of}
use Rattle.s2xv2.specs.Encode.{core_values, byte_parts, scrambling_parts, bond_parts, superframe_parts, parts_of, encode, encoded_length}
use Rattle.s2xv2.specs.ListA.{inconsistency}
use Rattle.s2xv2.specs.ListB.{unwritable}
use Rattle.s2xv2.specs.Write.{write_told}
use Rattle.s2xv2.specs.declared.record.S2Xv2SatelliteDeliverySystem.{S2Xv2SatelliteDeliverySystem}
use Rattle.std.specs.Prelude.{None}

-- what is given and what is due, in numbers
pub record Row : Type 0 where
  pub given : List ℕ
  pub due : List ℕ

infixr 90 ◌gives◌
abbrev pub ◌gives◌ : List ℕ → List ℕ → Row
a gives b = record { given = a; due = b }

abbrev same : List ℕ → List ℕ → Bool
same [] [] = true
same [] (b ∷ m) = false
same (a ∷ l) [] = false
same (a ∷ l) (b ∷ m) = and (eqb a b) (same l m)

-- the test of a table
abbrev pub right : List Row → Bool
right [] = true
right (r ∷ rs) = and (same r.given r.due) (right rs)

-- a byte that is not 0, and where it stands; n bytes, 0 where the list names none
record Byte : Type 0 where
  place : ℕ
  value : ℕ

infixr 90 ◌is◌
abbrev ◌is◌ : ℕ → ℕ → Byte
p is v = record { place = p; value = v }

abbrev body : ℕ → List Byte → List ℕ
body n [] = replicate n 0
body n (b ∷ bs) = set (body n bs) b.place b.value

-- what a body is answered
abbrev read : ℕ → List Byte → List ℕ
read n bs = read_told (body n bs)

-- .. and what it shows of reserved_1, and of the bonds
abbrev read₁ : ℕ → List Byte → List ℕ
read₁ n bs = read_told (body n bs) ++ ((read_of (body n bs)).body.reserved_zero_future_use_1 ∷ [])

abbrev read_bonds : ℕ → List Byte → List ℕ
read_bonds n bs = read_told (body n bs) ++ ((read_of (body n bs)).body.num_channel_bonds ∷ [])

-- a record of zeros but for its satellite_id, and what its writing is answered, with room for all that a body may have
abbrev satellite : ℕ → S2Xv2SatelliteDeliverySystem
satellite n =
    record_from (0 ∷ 0 ∷ 0 ∷ 0 ∷ 0 ∷ 0 ∷ 0 ∷ 0 ∷ 0 ∷ 0 ∷ 0 ∷ 0 ∷ n ∷ 0 ∷ 0 ∷ []) None 0 None None 0 0 0 0 None

abbrev write : ℕ → List ℕ
write n = write_told (satellite n) [] 4096

-- the body whose text is the dumper's example, and the fields of its core
abbrev printed : List ℕ
printed = 0 ∷ 0 ∷ 0 ∷ 7 ∷ 0x10 ∷ 5 ∷ 3 ∷ 0 ∷ 0 ∷ 0x2A ∷ 0 ∷ 0xB7 ∷ 0x1B ∷ 0 ∷ 0 ∷ 0 ∷ 0x6B ∷ 0x6C ∷ 0 ∷ 0 ∷ 0 ∷ 0 ∷ 8 ∷ []

abbrev pub table : List Row
table =
    read 0 [] gives (1 ∷ 1 ∷ 18 ∷ 0 ∷ 18 ∷ [])
    ∷ read 17 (4 is 0x50 ∷ []) gives (1 ∷ 1 ∷ 18 ∷ 17 ∷ 18 ∷ [])
    ∷ read 18 [] gives (0 ∷ 18 ∷ [])
    ∷ read 18 (4 is 0x08 ∷ []) gives (1 ∷ 2 ∷ 19 ∷ 18 ∷ 19 ∷ [])
    ∷ read 18 (4 is 0x58 ∷ 5 is 0x04 ∷ []) gives (1 ∷ 2 ∷ 19 ∷ 18 ∷ 33 ∷ [])
    ∷ read 20 (4 is 0x10 ∷ 6 is 0x80 ∷ []) gives (1 ∷ 3 ∷ 21 ∷ 20 ∷ 21 ∷ [])
    ∷ read₁ 18 (6 is 0x80 ∷ []) gives (0 ∷ 18 ∷ 1 ∷ [])
    ∷ read 18 (4 is 0x20 ∷ []) gives (1 ∷ 4 ∷ 19 ∷ 18 ∷ 19 ∷ [])
    ∷ read 18 (4 is 0x50 ∷ []) gives (1 ∷ 4 ∷ 19 ∷ 18 ∷ 27 ∷ [])
    ∷ read 18 (5 is 0x04 ∷ []) gives (1 ∷ 5 ∷ 19 ∷ 18 ∷ 23 ∷ [])
    ∷ read 19 (5 is 0x04 ∷ 18 is 0x01 ∷ []) gives (1 ∷ 6 ∷ 23 ∷ 19 ∷ 27 ∷ [])
    ∷ read 23 (5 is 0x04 ∷ 18 is 0x01 ∷ []) gives (1 ∷ 6 ∷ 27 ∷ 23 ∷ 27 ∷ [])
    ∷ read_bonds 18 (5 is 0x08 ∷ []) gives (0 ∷ 18 ∷ 0 ∷ [])
    ∷ read 25 (4 is 0x40 ∷ []) gives (1 ∷ 7 ∷ 26 ∷ 25 ∷ 26 ∷ [])
    ∷ read 25 (4 is 0x40 ∷ 19 is 0x40 ∷ []) gives (1 ∷ 7 ∷ 26 ∷ 25 ∷ 26 ∷ [])
    ∷ read 26 (4 is 0x40 ∷ 19 is 0x40 ∷ []) gives (1 ∷ 8 ∷ 29 ∷ 26 ∷ 30 ∷ [])
    ∷ read 29 (4 is 0x40 ∷ 19 is 0x40 ∷ []) gives (1 ∷ 9 ∷ 30 ∷ 29 ∷ 30 ∷ [])
    ∷ write 16777216 gives (4 ∷ 9 ∷ [])
    ∷ write 16777215 gives (0 ∷ 18 ∷ [])
    ∷ core_values (read_of printed).body gives (7 ∷ 1 ∷ 0 ∷ 0 ∷ 0 ∷ 0 ∷ 0 ∷ 1 ∷ 1 ∷ 0 ∷ 0 ∷ 3 ∷ 42 ∷ 12000000 ∷ 27500 ∷ [])
    ∷ encode (read_of printed).body [] gives printed
    ∷ []

-- Every row of the table is right.
pub cases : right table ≡ true
unfolding read_told present_in body_size least_total record_at superframe_at default_record mode_of write_told inconsistency unwritable encoded_length encode parts_of byte_parts scrambling_parts bond_parts superframe_parts
cases = refl
