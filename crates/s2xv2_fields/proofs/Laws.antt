-- Lines that are written in turn: `joined-append`, of lists of lines one after the other, and `and_then`, which says it of what is put.
-- Assumes nothing.
use Rattle.std.specs.Prelude.{◌≡◌, ℕ, List, [], ◌∷◌, ◌++◌}
use mathlib.Core.Path.{refl, ◌∙◌, ap}
use mathlib.Core.List.{append_assoc}
use Rattle.lines.specs.Out.{joined}
use Rattle.lines.specs.Sheet.{Put}
use Rattle.lines.specs.declared.sheet.Sheet.{Sheet}
use Rattle.lines.proofs.Laws.{both, same_text}

joined-append : (a b : List (List ℕ)) → joined a ++ joined b ≡ joined (a ++ b)
unfolding joined
joined-append [] b = refl
joined-append (t ∷ a) b = append_assoc t (joined a) (joined b) ∙ ap (λ (x : List ℕ). t ++ x) (joined-append a b)

pub and_then : (a b : List (List ℕ)) {s t u : Sheet} → Put s (joined a) t → Put t (joined b) u → Put s (joined (a ++ b)) u
and_then a b e f = same_text (joined-append a b) (both e f)
