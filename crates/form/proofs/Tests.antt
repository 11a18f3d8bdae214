-- Tests as facts: a list of tests that all hold gives each as an equation, and back, by induction over the list.
-- Assumes nothing.
use mathlib.Core.Path.{◌≡◌, refl}
use mathlib.Core.List.{List, [], ◌∷◌}
use mathlib.Core.Bool.{Bool, true, false, ◌&&◌, false≢true}
use borrow.Author.Tests.{leb-true, eqb-true, le-leb, eq-eqb}
use Rattle.form.specs.Form.{all}

-- a test that cannot hold is false
pub fails : (b : Bool) → (b ≡ true → ⊥) → false ≡ b
fails true h = absurd (h refl)
fails false h = refl

pub both : (a b : Bool) → (a && b) ≡ true → (a ≡ true) × (b ≡ true)
both true b e = (refl, e)
both false b e = absurd (false≢true e)

-- each test of the list, as an equation
abbrev pub Each : List Bool → Type 0
Each [] = Unit {0}
Each (b ∷ bs) = (b ≡ true) × Each bs

pub all-each : (bs : List Bool) → all bs ≡ true → Each bs
all-each [] e = tt
all-each (true ∷ bs) e = (refl, all-each bs e)
all-each (false ∷ bs) e = absurd (false≢true e)

pub each_all : (bs : List Bool) → Each bs → all bs ≡ true
each_all [] f = refl
each_all (b ∷ bs) f = rw f.0 (each_all bs f.1)

-- omega's list where tests are among the hypotheses, and where they are the goal
pub ruleset from-tests = (leb-true, eqb-true)

pub ruleset to-tests = (le-leb, eq-eqb)
