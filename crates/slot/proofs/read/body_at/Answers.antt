-- `slot::read::body_at` meets its contract: a descriptor of ours has length 1 at least, and ends inside the slot.
-- Assumes nothing.
use mathlib.Core.Path.{refl}
use native.Mathlib.Omega.{arith}
use Rattle.slot.proofs.Reading.{ours-bytes, body-part}
use Rattle.slot.proofs.read.body_at.Goals as goal

pub overflow_add-length : goal.overflow_add-length
overflow_add-length c = let f = ours-bytes _ _ c.requires in omega arith

pub bounds-slot-at : goal.bounds-slot-at
bounds-slot-at c = let f = ours-bytes _ _ c.requires in omega arith

pub overflow_add-end : goal.overflow_add-end
overflow_add-end c = let f = ours-bytes _ _ c.requires in omega arith

pub overflow_cast-end : goal.overflow_cast-end
overflow_cast-end c = let f = ours-bytes _ _ c.requires in omega arith

pub overflow_add-end-2 : goal.overflow_add-end-2
overflow_add-end-2 c = let f = ours-bytes _ _ c.requires in omega arith

pub overflow_add-result : goal.overflow_add-result
overflow_add-result c = let f = ours-bytes _ _ c.requires in omega arith

pub slice_bounds-result-count : goal.slice_bounds-result-count
slice_bounds-result-count c = let f = ours-bytes _ _ c.requires in omega arith

pub slice_bounds-result-start : goal.slice_bounds-result-start
slice_bounds-result-start c = let f = ours-bytes _ _ c.requires in omega arith

pub slice_bounds-result-end : goal.slice_bounds-result-end
slice_bounds-result-end c = let f = ours-bytes _ _ c.requires in omega arith

pub returns : goal.returns
returns c = body-part _ _ c.requires _ refl
