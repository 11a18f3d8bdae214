-- What a quick write leaves. Assumes nothing.
-- `Wrote`  the writer accepts the record with this length, and the buffer is as it leaves it
use Rattle.std.specs.Prelude.{ℕ, ◌≡◌, List, [], ◌∷◌, length}
use Rattle.s2xv2.specs.Write.{write_told, written}
use Rattle.s2xv2.specs.declared.record.S2Xv2SatelliteDeliverySystem.{S2Xv2SatelliteDeliverySystem}

pub record Wrote (n : ℕ) (r : S2Xv2SatelliteDeliverySystem) (tail before after : List ℕ) : Type 0 where
  pub told : write_told r tail (length before) ≡ 0 ∷ n ∷ []
  pub left : after ≡ written r tail before
