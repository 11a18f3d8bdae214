-- A flag that is there only where another says so.
-- Assumes nothing.
use mathlib.Core.Path.{◌≡◌, refl}
use mathlib.Core.Bool.{Bool, true, false}
use Rattle.std.specs.Option.{unwrap_or}
use Rattle.std.specs.Bool.{then_some}
use Rattle.wire.specs.Flags.{and}

pub is-selected : (has b : Bool) → unwrap_or (then_some has b) false ≡ and has b
is-selected true b = refl
is-selected false b = refl
