-- What the length call answers. Assumes nothing.
-- `length_told`  its answer in numbers, for a record and a tail
use Rattle.std.specs.Prelude.{ℕ, List, ltb}
use Rattle.wire.specs.Flags.{when}
use Rattle.answers.specs.Answer.{numbers, told, saturated}
use Rattle.answers.specs.declared.answer.Refusal.TheVariants as R
use Rattle.s2xv2.specs.Encode.{encoded_length}
use Rattle.s2xv2.specs.ListA.{inconsistency}
use Rattle.s2xv2.specs.declared.record.S2Xv2SatelliteDeliverySystem.{S2Xv2SatelliteDeliverySystem}
use Rattle.std.specs.Prelude.{Ok}

-- 3, then 2, then the length
unfoldable pub length_told : S2Xv2SatelliteDeliverySystem → List ℕ → List ℕ
length_told r tail =
    when (ltb 0 (inconsistency r)) (numbers (R.Inconsistent (inconsistency r)))
    (when (ltb 4096 (encoded_length r tail)) (numbers (R.Long (saturated (encoded_length r tail)))) (told (Ok (encoded_length r tail))))
