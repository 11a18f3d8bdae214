-- Laws of where a part ends: an end that is got is reached (`reached`), and one that is not got is not (`missed`).
-- Assumes nothing.
use Rattle.std.specs.Prelude.{◌≡◌, ℕ, ◌<◌, ◌≤◌, Bool, true, false, ltb, Some, None}
use mathlib.Core.Path.{refl}
use borrow.Author.Tests.{ltb-true, ltb-false}
use Rattle.wire.specs.Flags.{when}
use Rattle.s2xv2_reader.specs.Stored.{reach}

pub reached : (n e q : ℕ) → Some q ≡ reach n e → (q ≡ e) × (e ≤ n)
reached n e q d = go (ltb n e) refl d
  where
    go : (c : Bool) → ltb n e ≡ c → Some q ≡ when c None (Some e) → (q ≡ e) × (e ≤ n)
    go true t f = cc
    go false t f = (cc, ltb-false n e t)

pub missed : (n e : ℕ) → None ≡ reach n e → n < e
missed n e d = go (ltb n e) refl d
  where
    go : (c : Bool) → ltb n e ≡ c → None ≡ when c None (Some e) → n < e
    go true t f = ltb-true n e t
    go false t f = cc
