-- What the writer answers, and what it leaves in the buffer. Assumes nothing.
-- `write_told`  its answer in numbers, for a record, a tail and a buffer of so many bytes
-- `written`     the buffer afterwards
use Rattle.std.specs.Prelude.{ℕ, List, ◌++◌, length, drop, eqb, ltb}
use Rattle.wire.specs.Flags.{when}
use Rattle.answers.specs.Answer.{numbers, told, saturated, number_of}
use Rattle.answers.specs.declared.answer.Refusal.TheVariants as R
use Rattle.s2xv2.specs.Encode.{encode, encoded_length}
use Rattle.s2xv2.specs.ListA.{inconsistency}
use Rattle.s2xv2.specs.ListB.{unwritable}
use Rattle.s2xv2.specs.declared.record.S2Xv2SatelliteDeliverySystem.{S2Xv2SatelliteDeliverySystem}
use Rattle.std.specs.Prelude.{Ok}

-- 3, 2, 5, 4, in this order, else accepted with the length
unfoldable pub write_told : S2Xv2SatelliteDeliverySystem → List ℕ → ℕ → List ℕ
write_told r tail room =
    when (ltb 0 (inconsistency r)) (numbers (R.Inconsistent (inconsistency r)))
    (when (ltb 4096 (encoded_length r tail)) (numbers (R.Long (saturated (encoded_length r tail))))
    (when (ltb room (encoded_length r tail)) (numbers (R.Room (encoded_length r tail) room))
    (when (ltb 0 (unwritable r)) (numbers (R.Field (unwritable r))) (told (Ok (encoded_length r tail))))))

-- the encoding and then the old bytes if the record is accepted, and the old bytes alone if it is refused
unfoldable pub written : S2Xv2SatelliteDeliverySystem → List ℕ → List ℕ → List ℕ
written r tail buf = when (eqb (number_of (write_told r tail (length buf))) 0) (encode r tail ++ drop (encoded_length r tail) buf) buf
