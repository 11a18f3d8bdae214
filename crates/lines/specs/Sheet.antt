-- Text on a sheet, which is a lent buffer and the place where the next byte goes. Assumes nothing.
-- `buffer_of`  which buffer it is
-- `out_of`     what the buffer holds, and the place
-- `Put`        a text was put on a sheet, said of it before and after: the buffer is the same one, and the text was put there
use Rattle.std.specs.Prelude.{ℕ, ◌≡◌, List}
use base.Fml.{GName}
use Rattle.lines.specs.Out.{Out, ◌from◌, Wrote}
use Rattle.lines.specs.declared.sheet.Sheet.{Sheet}

abbrev pub buffer_of : Sheet → GName
buffer_of s = s.out.ghost_name

abbrev pub out_of : Sheet → Out
out_of s = s.out.now from s.at

pub record Put (before : Sheet) (text : List ℕ) (after : Sheet) : Type 0 where
  pub same : buffer_of after ≡ buffer_of before
  pub wrote : Wrote (out_of before) text (out_of after)
