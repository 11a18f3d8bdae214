-- `s2xv2::superframe::S2Xv2Superframe::default` meets its contract: it is the definition, field by field.
-- Assumes nothing.
use mathlib.Core.Path.{refl}
use Rattle.s2xv2.specs.Default.{default_superframe}
use Rattle.s2xv2.proofs.superframe.S2Xv2SuperframeDefault.default.Goals as goal

pub returns : goal.returns
unfolding default_superframe
returns c = refl
