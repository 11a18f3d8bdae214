-- How long the lines of a record can get: `core-most` 424 bytes with the line of the body's length, `parts-most` 256, `superframe-most` 362.
-- The rest are their parts.
-- Assumes nothing.
use Rattle.std.specs.Prelude.{ℕ, ◌+◌, eqb, List, length}
use native.Mathlib.Omega.{arith}
use Rattle.s2xv2.specs.declared.record.S2Xv2SatelliteDeliverySystem.{S2Xv2SatelliteDeliverySystem}
use Rattle.lines.specs.Line.{codes}
use Rattle.lines.proofs.Length.{Most, more, none, two, three, four, line-most, either, upto, empty}
use Rattle.s2xv2_fields.specs.Fields as F
use Rattle.std.specs.Prelude.{None, Option, Some}
use Rattle.std.specs.Prelude.{Bool}
use Rattle.s2xv2.specs.declared.superframe.S2Xv2Superframe.{S2Xv2Superframe}

-- ---- the core

top-most : (o : Option Bool) (v : ℕ) → Most (F.top_of o v) 40
unfolding F.line_or
top-most (Some b) v = line-most _ _
top-most None v = upto 40 (omega arith) (line-most (codes "reserved_zero_future_use_1") v)

pub core-most : (n : ℕ) (r : S2Xv2SatelliteDeliverySystem) → Most (F.core_text n r) 424
unfolding F.core_text F.core_lines
core-most n r =
    more _ (line-most _ _) (more _ (line-most _ _) (more _ (line-most _ _) (more _ (line-most _ _)
    (more _ (line-most _ _) (more _ (line-most _ _) (more _ (line-most _ _) (more _ (line-most _ _)
    (more _ (line-most _ _) (more _ (line-most _ _) (more _ (top-most _ _) (more _ (line-most _ _)
    (more _ (line-most _ _) (more _ (line-most _ _) (more _ (line-most _ _) (more _ (line-most _ _) none)))))))))))))))

-- ---- the parts that may be there

number-most : (name : List ℕ) (o : Option ℕ) → Most (F.number_if name o) (length name + 12)
unfolding F.line_if
number-most name (Some v) = line-most name v
number-most name None = empty (length name + 12)

scrambling-most : (o : Option ℕ) (v : ℕ) → Most (F.scrambling_of o v) 75
unfolding F.scrambling_of
scrambling-most (Some i) v = two (line-most _ _) (line-most _ _)
scrambling-most None v = empty 75

second-most : (count v : ℕ) → Most (F.second_of count v) 40
unfolding F.second_of
second-most count v = either (eqb count 1) (empty 40) (line-most _ _)

bonds-most : (count v a b : ℕ) → Most (F.bonds_of count v a b) 118
unfolding F.bonds_of
bonds-most count v a b = either (eqb count 0) (empty 118) (three (line-most _ _) (line-most _ _) (second-most count b))

pub parts-most : (r : S2Xv2SatelliteDeliverySystem) → Most (F.parts_text r) 256
unfolding F.parts_text
parts-most r = four (number-most _ _) (scrambling-most _ _) (number-most _ _) (bonds-most _ _ _ _)

-- ---- the superframe block

nibble-most : (o : Option ℕ) (v : ℕ) → Most (F.nibble_line o v) 38
unfolding F.line_or
nibble-most (Some s) v = upto 38 (omega arith) (line-most (codes "sffi") s)
nibble-most None v = line-most _ _

pub superframe-most : (o : Option S2Xv2Superframe) → Most (F.superframe_text o) 362
unfolding F.superframe_text F.block_lines
superframe-most (Some f) =
    more _ (line-most _ _) (more _ (line-most _ _) (more _ (line-most _ _) (more _ (line-most _ _)
    (more _ (line-most _ _) (more _ (nibble-most _ _) (more _ (line-most _ _) (more _ (number-most _ _)
    (more _ (line-most _ _) (more _ (line-most _ _) none)))))))))
superframe-most None = empty 362
