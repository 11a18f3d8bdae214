-- The part that is told of a tail has the tail's bytes: `cut-tail` for a body, `cut-slot` for a slot.
-- Assumes nothing.
use mathlib.Core.Path.{◌≡◌, refl, sym, ap, ◌∙◌}
use mathlib.Core.Bool.{Bool, true, false}
use mathlib.Core.List.{List, [], ◌∷◌}
use Prim.Native.Nat.{ℕ, suc, zero, ◌+◌, ◌-◌}
use native.Mathlib.Omega.{arith}
use borrow.Author.Tests.{eqb-true}
use lib.ListN.{length, take, drop, get_or}
use lib.Seq.{take-nil, drop-nil}
use lib.Dec.{eqb}
use Rattle.wire.specs.Flags.{when}
use Rattle.answers.specs.Answer.{number_of}
use Rattle.s2xv2.specs.Read.{read_told, body_size, tail_of}
use Rattle.s2xv2.proofs.Reach.{accepted-reaches, told-accepted}
use Rattle.s2xv2_reader.proofs.Laws.{rest}
use Rattle.form.specs.Form.{byte_at, body_at, form_of}
use Rattle.form.specs.declared.good.Form.{Form}
use Rattle.form.specs.declared.good.Form.TheVariants as F
use Rattle.slot.specs.Read.{placed, shows_body, shows_form, shown}
use Rattle.slot.specs.Part.{no_part, told_part, slot_part}
use Rattle.capi.specs.Part.{part_in, tail_part}

pub cut-tail : (s : List ℕ) → part_in (tail_part s) s ≡ tail_of s
unfolding tail_part
cut-tail s = go (eqb (number_of (read_told s)) 0)
  where
    go : (b : Bool) → part_in (when b (record { place = body_size s; length = length s - body_size s }) no_part) s ≡ when b (drop (body_size s) s) []
    go true = rest (body_size s) s
    go false = refl

-- the first m, cut by their own length
whole : (m : ℕ) (xs : List ℕ) → take (length (take m xs)) xs ≡ take m xs
whole zero xs = refl
whole (suc m) [] = refl
whole (suc m) (x ∷ xs) = ap (λ (l : List ℕ). x ∷ l) (whole m xs)

-- what is left behind t of the first m, cut from all
behind : (m t : ℕ) (xs : List ℕ) → take (length (take m xs) - t) (drop t xs) ≡ drop t (take m xs)
behind m zero xs = let q : length (take m xs) - 0 ≡ length (take m xs) = omega arith in ap (λ (k : ℕ). take k xs) q ∙ whole m xs
behind zero (suc t) xs = let q : 0 - suc t ≡ 0 = omega arith in ap (λ (k : ℕ). take k (drop (suc t) xs)) q
behind (suc m) (suc t) [] = take-nil (0 - suc t)
behind (suc m) (suc t) (x ∷ xs) =
    let q : suc (length (take m xs)) - suc t ≡ length (take m xs) - t = omega arith in
    ap (λ (k : ℕ). take k (drop t xs)) q ∙ behind m t xs

twice : (t m : ℕ) (xs : List ℕ) → drop (t + m) xs ≡ drop t (drop m xs)
twice t zero xs = let q : t + 0 ≡ t = omega arith in ap (λ (k : ℕ). drop k xs) q
twice t (suc m) [] = drop-nil (t + suc m) ∙ sym (drop-nil t)
twice t (suc m) (x ∷ xs) = let q : t + suc m ≡ suc (t + m) = omega arith in ap (λ (k : ℕ). drop k (x ∷ xs)) q ∙ twice t m xs

-- the reader's answer for the body of the descriptor at a place, as it is placed in the slot
module _ (s : List ℕ) (at : ℕ) where
  abbrev body : List ℕ
  body = body_at s at

  abbrev t : ℕ
  t = get_or (read_told body) 1 0

  in_body : part_in (told_part (placed at (length body) (read_told body))) s ≡ tail_of body
  in_body = go (eqb (number_of (read_told body)) 0) refl
    where
      go : (b : Bool) → eqb (number_of (read_told body)) 0 ≡ b
          → part_in (told_part (when b (0 ∷ (t + (at + 3)) ∷ (length body - t) ∷ []) (read_told body))) s ≡ when b (drop (body_size body) body) []
      go true e =
          let h = accepted-reaches body (eqb-true _ _ e) in
          let q : t ≡ body_size body = ap (λ (l : List ℕ). get_or l 1 0) (told-accepted body h.0 h.1) in
          ap (λ (l : List ℕ). take (length body - t) l) (twice t (at + 3) s) ∙ behind (byte_at s (at + 1) - 1) t (drop (at + 3) s) ∙ ap (λ (k : ℕ). drop k body) q
      go false e = simp e

pub cut-slot : (s : List ℕ) → part_in (slot_part s) s ≡ (shown s).tail
unfolding slot_part shown shows_body
cut-slot s = go (form_of s)
  where
    go : (f : Form) → part_in (told_part (shows_form s f).reading.told) s ≡ (shows_form s f).tail
    go F.Size = refl
    go (F.Broken at) = refl
    go F.Empty = refl
    go (F.Ours at) = in_body s at
