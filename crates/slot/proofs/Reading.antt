-- What reading a slot answers, by the way through the code: the form that is told, and the reader's answer for the body.
-- Assumes nothing.
use mathlib.Core.Path.{◌≡◌, refl, sym, ap, ◌∙◌}
use mathlib.Core.List.{List, [], ◌∷◌}
use Prim.Native.Nat.{ℕ, ◌+◌, ◌-◌, ◌≤◌}
use native.Mathlib.Omega.{arith}
use mathlib.Core.Option.{some}
use mathlib.Core.Logic.{◌⊎◌, inl, inr}
use lib.ListN.{length, take, drop, length-take, length-drop}
use Rattle.answers.proofs.Answers.{refused-number}
use Rattle.answers.specs.declared.answer.Refusal.{Refusal}
use Rattle.answers.specs.Answer.{numbers}
use Rattle.s2xv2.specs.Default.{default_record}
use Rattle.s2xv2.specs.Read.{Reading, read_told, read_of, tail_of}
use Rattle.s2xv2.proofs.Reach.{accepted-tail}
use Rattle.std.specs.Prelude.{Some, Ok, Err}
use Rattle.s2xv2_reader.specs.declared.Parsed.{Parsed}
use Rattle.s2xv2_reader.specs.Seen.{seen}
use Rattle.slot.specs.Answer.{slot_seen}
use Rattle.form.specs.Form.{byte_at, body_at, form_of}
use Rattle.form.specs.declared.good.Form.{Form}
use Rattle.form.specs.declared.good.Form.TheVariants as F
use Rattle.form.proofs.Answers.{told-good}
use Rattle.form.proofs.Laws.{ours-there}
use Rattle.slot.specs.Part.{no_part, told_part}
use Rattle.slot.specs.Read.{Shown, body_of, body_in, shows_body, shows_form, placed, shown}

-- ---- by the form that is told
pub shows : (s : List ℕ) (f : Form) → f ≡ form_of s → shows_form s f ≡ shown s
unfolding shown
shows s f e = ap (shows_form s) e

pub its-body : (s : List ℕ) (f : Form) → f ≡ form_of s → body_of s f ≡ body_in s
unfolding body_in
its-body s f e = ap (body_of s) e

-- a slot of any other form than that of one of ours has no body, and no tail
pub no-body : (s : List ℕ) (f : Form) → f ≡ form_of s → (f ≡ F.Size) ⊎ (((at : ℕ) × (f ≡ F.Broken at)) ⊎ (f ≡ F.Empty)) → [] ≡ body_in s
no-body s f e (inl h) = its-body s F.Size (sym h ∙ e)
no-body s f e (inr (inl h)) = its-body s (F.Broken h.0) (sym h.1 ∙ e)
no-body s f e (inr (inr h)) = its-body s F.Empty (sym h ∙ e)

pub no-tail : (s : List ℕ) (f : Form) → f ≡ form_of s → (f ≡ F.Size) ⊎ (((at : ℕ) × (f ≡ F.Broken at)) ⊎ (f ≡ F.Empty)) → no_part ≡ told_part (shown s).reading.told
no-tail s f e (inl h) = ap (λ (x : Shown). told_part x.reading.told) (shows s F.Size (sym h ∙ e))
no-tail s f e (inr (inl h)) = ap (λ (x : Shown). told_part x.reading.told) (shows s (F.Broken h.0) (sym h.1 ∙ e))
no-tail s f e (inr (inr h)) = ap (λ (x : Shown). told_part x.reading.told) (shows s F.Empty (sym h ∙ e))

-- the tail is that of the body, also where there is none: no bytes are no body
no_bytes : tail_of [] ≡ []
unfolding read_told
no_bytes = refl

pub tail-in : (s : List ℕ) → tail_of (body_in s) ≡ (shown s).tail
unfolding shown shows_body body_in
tail-in s = go (form_of s)
  where
    go : (f : Form) → tail_of (body_of s f) ≡ (shows_form s f).tail
    go F.Size = no_bytes
    go (F.Broken at) = no_bytes
    go F.Empty = no_bytes
    go (F.Ours at) = refl

-- ---- the one of ours: its bytes, and its body
module _ (s : List ℕ) (a : ℕ) (f : form_of s ≡ F.Ours a) where
  pub ours-bytes : (1 ≤ byte_at s (a + 1)) × ((a + 2 + byte_at s (a + 1) ≤ length s) × (length s ≤ 257))
  ours-bytes = let g = told-good s (some a) f in let o = ours-there g in (o.its-length, (o.its-end, g.most))

  -- the body, cut where the descriptor ends
  pub body-part : (b : ℕ) → b ≡ byte_at s (a + 1) → take (a + 2 + b - (a + 3)) (drop (a + 3) s) ≡ body_at s a
  body-part b e = let q : a + 2 + b - (a + 3) ≡ byte_at s (a + 1) - 1 = omega arith in ap (λ (n : ℕ). take n (drop (a + 3) s)) q

  module _ (b : List ℕ) (e : b ≡ body_at s a) where
    pub body-size : (length b ≤ 257) × (a ≤ 257)
    body-size = let n = ours-bytes in (rw e (simp (length-take, length-drop) (omega arith)), omega arith)

    shows-body : shows_body a b ≡ shown s
    shows-body = ap (shows_body a) e ∙ shows s (F.Ours a) (sym f)

    pub shows-reading : (shows_body a b).reading ≡ (shown s).reading
    shows-reading = ap (λ (x : Shown). x.reading) shows-body

    pub tells-body : placed a (length b) (read_told b) ≡ (shown s).reading.told
    unfolding shows_body
    tells-body = ap (λ (x : Shown). x.reading.told) shows-body

    pub holds-body : (read_of b).body ≡ (shown s).reading.body
    unfolding shows_body
    holds-body = ap (λ (x : Shown). x.reading.body) shows-body

-- a refused body is told as the reader tells it
pub placed-refused : (a size : ℕ) (why : Refusal) → numbers why ≡ placed a size (numbers why)
placed-refused a size why = rw (refused-number why)

-- the tail of a body that is accepted starts inside it
pub starts-within : (b l : List ℕ) → l ≡ read_told b → (n : ℕ) → 0 ∷ n ∷ [] ≡ l → n ≤ length b
starts-within b l q n h = (accepted-tail b n (h ∙ q)).1

-- ---- the record

-- what a body in the descriptor at a place reads as, by what the reader answers
module _ (s : List ℕ) (at : ℕ) where
  abbrev in_slot : Reading → Reading
  in_slot x = record { told = placed at (length s) x.told; body = x.body }

  pub seen-refused : (why : Refusal) → seen (Err why) ≡ read_of s → slot_seen (Err why) ≡ (shows_body at s).reading
  unfolding shows_body
  seen-refused why e = ap (λ (l : List ℕ). record { told = l; body = default_record }) (placed-refused at (length s) why) ∙ ap in_slot e

  pub seen-accepted : (p : Parsed) → seen (Ok p) ≡ read_of s
      → slot_seen (Ok (Some (record { tail = record { place = p.tail_start + (at + 3); length = length s - p.tail_start }; body = p.body }))) ≡ (shows_body at s).reading
  unfolding shows_body
  seen-accepted p e = ap in_slot e

  pub seen-within : (p : Parsed) → seen (Ok p) ≡ read_of s → p.tail_start ≤ length s
  seen-within p e = starts-within s _ (ap (λ (x : Reading). x.told) e) p.tail_start refl
