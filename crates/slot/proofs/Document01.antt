-- Every slot in the form of document 01 is in good form and reads as it did there: as empty where its first tag is stuffing's, and else as the body of its
-- first descriptor, with the tail's place as it was.
-- Assumes nothing.
use mathlib.Core.Path.{◌≡◌, refl, ◌∙◌}
use mathlib.Core.Bool.{Bool, true, false, cond}
use mathlib.Core.List.{List}
use mathlib.Core.Option.{none, some}
use Prim.Native.Nat.{ℕ}
use lib.Dec.{eqb}
use Rattle.wire.specs.Flags.{when}
use Rattle.form.specs.Envelope.{stuffing_tag}
use Rattle.form.specs.Form.{byte_at, body_at, judged}
use Rattle.form.specs.Document01.{form01}
use Rattle.form.proofs.Document01.{good01}
use Rattle.slot.specs.Read.{shows_empty, shows_body, shows_form, ReadsAs}
use Rattle.slot.specs.Document01.{shown01}
use Rattle.slot.proofs.Laws.{reads-good}

by_first : (s : List ℕ) (b : Bool) → shows_form s (judged none (cond b none (some 0))) ≡ when b shows_empty (shows_body 0 (body_at s 0))
by_first s true = refl
by_first s false = refl

pub reads_same : (s : List ℕ) → form01 s ≡ true → ReadsAs s (shown01 s)
reads_same s e = let r = reads-good (good01 s e) in record { form = r.form; reads = r.reads ∙ by_first s (eqb (byte_at s 0) stuffing_tag) }
