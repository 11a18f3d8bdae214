-- The empty call. Assumes nothing.
-- `empty_told`  its answer in numbers, for a slot of so many bytes
-- `emptied`     the slot afterwards
use Rattle.std.specs.Prelude.{ℕ, List, length, None, Ok}
use Rattle.wire.specs.Flags.{when}
use Rattle.answers.specs.Answer.{numbers}
use Rattle.answers.specs.declared.answer.Refusal.TheVariants as R
use Rattle.slot.specs.Answer.{slot_told}
use Rattle.form.specs.Envelope.{stuffing}
use Rattle.form.specs.Form.{good_size}

-- refused with 6 for a wrong n, and for nothing else
unfoldable pub empty_told : ℕ → List ℕ
empty_told n = when (good_size n) (slot_told (Ok None)) (numbers R.Slot)

-- 0x42, n - 2, then 0xFF, whatever stood there; a refused slot keeps its bytes
unfoldable pub emptied : List ℕ → List ℕ
emptied s = when (good_size (length s)) (stuffing (length s)) s
