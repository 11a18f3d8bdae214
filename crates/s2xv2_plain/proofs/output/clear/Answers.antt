-- `s2xv2_plain::output::clear` meets its contract: every field of the default record is 0 or absent.
-- Assumes nothing.
use mathlib.Core.Path.{refl}
use Rattle.s2xv2.specs.Default.{default_record, default_superframe}
use Rattle.s2xv2_plain.proofs.output.clear.Goals as goal

pub returns : goal.returns
unfolding default_record default_superframe
returns c = record {
  numbers = refl;
  bytes = refl;
}
