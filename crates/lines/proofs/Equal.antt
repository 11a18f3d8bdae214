-- The contracts of this crate, and of all that put text by it, leave no choice: `Wrote` is an equation of the buffer and the place after,
-- and `Put` says it of a sheet.
-- Assumes nothing.
use mathlib.Core.Path.{◌≡◌, sym, ◌∙◌}
use mathlib.Core.List.{List}
use Prim.Native.Nat.{ℕ}
use Rattle.lines.specs.Out.{Out, Wrote}
use Rattle.lines.specs.Sheet.{out_of, Put}
use Rattle.lines.specs.declared.sheet.Sheet.{Sheet}

-- Two buffers, each with its place, that a call leaves of the same buffer, place and text are equal.
pub wrote-equal : (before : Out) (text : List ℕ) (a b : Out) → Wrote before text a → Wrote before text b → a ≡ b
wrote-equal before text a b p q = p.is ∙ sym q.is

-- Two sheets that a call leaves of the same sheet and text have equal buffers and places.
pub put-equal : (before : Sheet) (text : List ℕ) (a b : Sheet) → Put before text a → Put before text b → out_of a ≡ out_of b
put-equal before text a b p q = wrote-equal (out_of before) text (out_of a) (out_of b) p.wrote q.wrote
