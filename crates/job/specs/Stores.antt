-- The stores of a job (docs/ANSWERS.md, 'Slot and job'). Assumes nothing.
-- `behind`   what the finished slot has from its third byte on
-- `covered`  the stores of a middle, between those that lay stuffing over the slot and those that take it off
-- `stores`   the stores for a descriptor
use Rattle.std.specs.Prelude.{ℕ, ◌-◌, List, [], ◌∷◌, ◌++◌, length, drop}
use Rattle.stores.specs.declared.store.Store.{Store}
use Rattle.stores.specs.Run.{◌at◌, upwards}
use Rattle.form.specs.Envelope.{tag, stuffing_tag, stuffing}

-- the descriptor from its third byte, and, if it is below n, a stuffing descriptor to the end
unfoldable pub behind : ℕ → List ℕ → List ℕ
behind n ds = drop 2 ds ++ stuffing (n - length ds)

-- 0x42 at byte 0 and n - 2 at byte 1: one stuffing descriptor is laid over the whole slot; the middle is stored behind these two bytes;
-- then d - 2 at byte 1 and 0x7F at byte 0: they become those of a descriptor of d bytes
unfoldable pub covered : ℕ → ℕ → List Store → List Store
covered n d middle = stuffing_tag at 0 ∷ (n - 2) at 1 ∷ (middle ++ ((d - 2) at 1 ∷ tag at 0 ∷ []))

-- THE STORES for the descriptor ds in a slot of n bytes, n + 2 of them: bytes 2 to n - 1 upwards are the middle
unfoldable pub stores : ℕ → List ℕ → List Store
stores n ds = covered n (length ds) (upwards 2 (behind n ds))
