-- `s2xv2::record::S2Xv2SatelliteDeliverySystem::default` meets its contract: it is the definition, field by field.
-- Assumes nothing.
use mathlib.Core.Path.{refl}
use Rattle.s2xv2.specs.Default.{default_record}
use Rattle.s2xv2.proofs.record.S2Xv2SatelliteDeliverySystemDefault.default.Goals as goal

pub returns : goal.returns
unfolding default_record
returns c = refl
