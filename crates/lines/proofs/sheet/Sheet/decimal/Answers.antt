-- `lines::sheet::Sheet::decimal` meets its contract: one power's digit more is put behind those so far, and the last digit behind them all.
-- Assumes nothing.
use mathlib.Core.Path.{◌≡◌, ap, sym, ◌∙◌}
use mathlib.Core.List.{List, [], ◌∷◌, ◌++◌, map, append_assoc, append-nil}
use Prim.Native.Nat.{ℕ, ◌+◌, ◌%◌, ◌≤◌, ◌<◌}
use native.Mathlib.Numerals.{add-one}
use lib.ListN.{length, take, get_or}
use lib.Seq.{take-suc}
use Rattle.std.proofs.lemmas.List.{take_all}
use Rattle.lines.specs.Out.{joined}
use Rattle.lines.specs.Number.{digit_of, three_of, decimal_of}
use Rattle.lines.specs.Sheet.{Put}
use Rattle.lines.specs.declared.sheet.Sheet.{Sheet}
use Rattle.lines.specs.declared.number.TheConstants.{POWERS}
use Rattle.lines.proofs.Laws.{nothing, both, same_text}
use Rattle.lines.proofs.sheet.Sheet.decimal.Goals as goal

abbrev digits : ℕ → List ℕ → List ℕ
digits n powers = joined (map (digit_of n) powers)

digits-more : (n : ℕ) (powers : List ℕ) (power : ℕ) → digits n (powers ++ (power ∷ [])) ≡ digits n powers ++ digit_of n power
unfolding joined
digits-more n [] power = append-nil (digit_of n power)
digits-more n (p ∷ powers) power =
    ap (λ (t : List ℕ). digit_of n p ++ t) (digits-more n powers power) ∙ sym (append_assoc (digit_of n p) (digits n powers) (digit_of n power))

one_more : (n i : ℕ) (powers : List ℕ) {s t u : Sheet} → i < length powers → Put s (digits n (take i powers)) t
    → Put t (digit_of n (get_or powers i 0)) u → Put s (digits n (take (i + 1) powers)) u
one_more n i powers h a b = rw (add-one, take-suc powers i 0 h, digits-more) (both a b)

all : (n i : ℕ) → length POWERS ≤ i → digits n (take i POWERS) ++ ((48 + n % 10) ∷ []) ≡ decimal_of n
unfolding decimal_of three_of joined
all n i h = rw (take_all i POWERS h) (simp (append_assoc, append-nil))

pub loop-power-init : goal.loop-power-init
unfolding joined
loop-power-init c = nothing

pub loop-power-preserved : goal.loop-power-preserved
loop-power-preserved c =
    let l = c.loop-power in
    one_more c.args.n l.power-index POWERS c.loop-power-test.true l.invariant c.digit.ensures

pub returns : goal.returns
returns c =
    let l = c.loop-power in
    same_text (all c.args.n l.power-index c.loop-power-test.false) (both l.invariant c.put.ensures)
