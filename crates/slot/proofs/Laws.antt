-- What a slot reads as: by where its one of ours starts, and in the states that a job goes through. Each has its form from the laws of good form.
-- Assumes nothing.
-- Under a stuffing descriptor over the whole slot it is empty, whatever stands behind (`cover`); with a first tag that was ours made stuffing's it is
-- empty (`retag`), and with any other no byte changes (`retag-same`); with a descriptor of ours and stuffing behind it, it reads as the body (`image`);
-- emptied it is empty (`emptied-reads`).
use mathlib.Core.Path.{◌≡◌, refl, ap, subst, ◌∙◌}
use mathlib.Core.List.{List, Memᴰ}
use mathlib.Core.Bool.{true}
use mathlib.Core.Option.{Option, none, some}
use Prim.Native.Nat.{ℕ, ◌+◌, ◌≤◌}
use native.Mathlib.Omega.{arith}
use lib.ListN.{length, set, drop}
use Rattle.form.specs.Envelope.{tag, stuffing_tag, envelope, stuffing, holding}
use Rattle.form.specs.Walk.{Descriptor, walk, descriptors}
use Rattle.form.specs.Form.{byte_at, good_size, good_form, judged}
use Rattle.form.proofs.Stuffing.{stuffing-length, stuffing-tag, stuffing-size}
use Rattle.form.proofs.GoodForm.{size-facts}
use Rattle.form.proofs.Answers.{Good, good-form, form-good, tells-good}
use Rattle.form.proofs.Walked.{the_one, none-met, met-body}
use Rattle.form.proofs.Laws as L
use Rattle.slot.specs.Read.{shows_empty, shows_body, shows_form, shown, ReadsAs}
use Rattle.slot.specs.Empty.{emptied}
use Rattle.slot.proofs.Emptying.{left-empty}

-- ---- by where the one of ours starts
pub reads-good : {s : List ℕ} {m : Option ℕ} → Good s m → ReadsAs s (shows_form s (judged none m))
unfolding shown
reads-good {s} {m} g = record { form = (good-form g).0; reads = ap (shows_form s) (tells-good s m g) }

-- THE SLOT READS AS THE ONE OF OURS: of a slot in good form, any descriptor of the walk with tag 0x7F is that one, and its body is what stands behind its third
-- byte ..
pub reads-one : (s : List ℕ) → good_form s ≡ true → (d : Descriptor) → Memᴰ d (descriptors (walk s)) → d.tag ≡ tag → shown s ≡ shows_body d.offset (drop 1 d.content)
reads-one s f d m t =
    let g : Good s (some d.offset) = subst (Good s) (the_one s f d m t) (form-good s f) in
    (reads-good g).reads ∙ ap (shows_body d.offset) (met-body s d m)

-- .. and with none it reads as empty.
pub reads_none : (s : List ℕ) → good_form s ≡ true → ((d : Descriptor) → Memᴰ d (descriptors (walk s)) → d.tag ≡ tag → ⊥) → shown s ≡ shows_empty
reads_none s f h = let g : Good s none = subst (Good s) (none-met s h) (form-good s f) in (reads-good g).reads

-- ---- the states of a job
pub cover : (s : List ℕ) → 21 ≤ length s → length s ≤ 257 → byte_at s 0 ≡ stuffing_tag → byte_at s 1 + 2 ≡ length s → ReadsAs s shows_empty
cover s l h t e = reads-good (L.cover s l h t e)

pub retag : (s : List ℕ) → good_form s ≡ true → byte_at s 0 ≡ tag → ReadsAs (set s 0 stuffing_tag) shows_empty
retag s f t = reads-good (L.retag (form-good s f) t)

pub retag-same : (s : List ℕ) → good_form s ≡ true → (byte_at s 0 ≡ tag → ⊥) → set s 0 stuffing_tag ≡ s
retag-same s f t = L.retag-same (form-good s f) t

module _ (n : ℕ) (body : List ℕ) (l : 21 ≤ n) (h : n ≤ 257) (fits : length (envelope body) ≤ n) (gap : length (envelope body) + 1 ≡ n → ⊥) where
  pub image : ReadsAs (holding n body) (shows_body 0 body)
  image =
      let r = reads-good (L.image n body l h fits gap) in
      record { form = r.form; reads = r.reads ∙ ap (shows_body 0) (L.image-body n body l h fits gap) }

-- ---- an emptied slot is empty
pub emptied-reads : (s : List ℕ) → good_size (length s) ≡ true → ReadsAs (emptied s) shows_empty
emptied-reads s e =
    let f = size-facts (length s) e in
    let q : length (stuffing (length s)) ≡ length s = stuffing-length (length s) in
    rw (← left-empty s e)
    (cover (stuffing (length s)) (rw q f.0) (rw q f.1) (stuffing-tag (length s) 0 refl (omega arith))
    (rw (q, stuffing-size (length s) 1 refl (omega arith)) (omega arith)))
