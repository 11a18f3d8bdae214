-- Lists of stores. Assumes nothing.
-- `◌at◌`     a store: a byte at a place
-- `stored`   a slot after one store
-- `run`      a slot after all stores of a list
-- `upwards`  the stores of some bytes, one behind the other
-- `Within`   between which places a list stores
-- `Own`      what a list may leave at a place
use Rattle.std.specs.Prelude.{ℕ, suc, ◌≤◌, ◌<◌, ◌≡◌, set}
use mathlib.Core.List.{List, [], ◌∷◌, Memᴰ}
use Rattle.stores.specs.declared.store.Store.{Store}

-- the byte b at place i
infixr 90 ◌at◌
abbrev pub ◌at◌ : ℕ → ℕ → Store
b at i = record { place = i; byte = b }

-- the slot after one store; a place behind its end changes nothing
abbrev pub stored : Store → List ℕ → List ℕ
stored p s = set s p.place p.byte

-- the slot after all stores of a list, made in the list's order
unfoldable pub run : List Store → List ℕ → List ℕ
run [] s = s
run (p ∷ ps) s = run ps (stored p s)

-- the bytes bs, one by one, upwards from place i
unfoldable pub upwards : ℕ → List ℕ → List Store
upwards i [] = []
upwards i (b ∷ bs) = b at i ∷ upwards (suc i) bs

-- every store is at a place from a on and below b
abbrev pub Within : ℕ → ℕ → List Store → Type 0
Within a b [] = Unit {0}
Within a b (p ∷ ps) = (a ≤ p.place) × (p.place < b) × Within a b ps

-- at place i, where old stood, the stores ps may leave what stood there, or a byte that one of them stores there
pub data Own (ps : List Store) (i old new : ℕ) : Type 0 where
  kept : new ≡ old → Own ps i old new
  ours : Memᴰ (new at i) ps → Own ps i old new
