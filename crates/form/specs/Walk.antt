-- The walk over the descriptors of any bytes. Assumes nothing.
-- `Descriptor`   one that lies whole: where its tag stands, its tag, and the bytes behind its length byte
-- `Walk`         descriptors, one behind the other, and the place where the walk stops
-- `walk_from`    the walk on from a place
-- `walk`         the walk from the first byte on
-- `descriptors`  those that a walk meets, in their order
-- `stop`         where it stops: at the end, at a descriptor that runs past it, or where one byte is left
use Rattle.std.specs.Prelude.{ℕ, zero, suc, List, [], ◌∷◌, cond, length, take, leb}

pub record Descriptor : Type 0 where
  pub offset : ℕ
  pub tag : ℕ
  pub content : List ℕ

pub data Walk : Type 0 where
  whole : Descriptor → Walk → Walk
  stops : ℕ → Walk

-- the walk has come to the place `at`, and the bytes are those from there on: `skip` of them still belong to the descriptor that was met last
unfoldable pub walk_from : ℕ → ℕ → List ℕ → Walk
walk_from at skip [] = stops at
walk_from at (suc skip) (x ∷ r) = walk_from (suc at) skip r
walk_from at zero (t ∷ []) = stops at
walk_from at zero (t ∷ l ∷ r) =
    let met : Descriptor = record { offset = at; tag = t; content = take l r } in
    cond (leb l (length r)) (whole met (walk_from (suc (suc at)) l r)) (stops at)

-- THE WALK
abbrev pub walk : List ℕ → Walk
walk s = walk_from 0 0 s

unfoldable pub descriptors : Walk → List Descriptor
descriptors (whole d w) = d ∷ descriptors w
descriptors (stops at) = []

unfoldable pub stop : Walk → ℕ
stop (whole d w) = stop w
stop (stops at) = at
