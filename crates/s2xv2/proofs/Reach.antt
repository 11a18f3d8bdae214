-- Laws of the reader's answer: it is accepted where the body reaches every end, which it does where it reaches the last, and is refused
-- by a number of its own everywhere else.
-- Assumes nothing.
use mathlib.Core.Path.{◌≡◌, refl, sym, ap, ◌∙◌}
use mathlib.Core.List.{List, [], ◌∷◌}
use mathlib.Core.Bool.{Bool, true, false}
use Prim.Native.Nat.{ℕ, ◌≤◌, ◌<◌}
use native.Mathlib.Omega.{arith}
use lib.ListN.{length, drop, get_or}
use lib.Dec.{ltb}
use borrow.Author.Tests.{lt-ltb, le-ltb, ltb-true, ltb-false}
use Rattle.answers.proofs.Answers.{refused-number}
use Rattle.answers.proofs.Short.{Reaches, reaches-told, told-reaches}
use Rattle.wire.specs.Flags.{only}
use Rattle.answers.specs.Answer.{numbers, saturated, number_of}
use Rattle.s2xv2.specs.Default.{default_record}
use Rattle.s2xv2.specs.Read.{Present, present_in, has_second, bond_size, bond_end, has_plan, superframe_size, plan_size, superframe_end, timeslice_end, body_size, needs, short_of, read_told, read_of, record_in, tail_of}
use Rattle.answers.specs.Short.{short_told}
use Rattle.answers.specs.declared.answer.Refusal.{Refusal}

-- ---- the ends are in order

pub bond-order : (b d : Bool) → (only b 1 ≤ only b (bond_size d)) × (only b 5 ≤ only b (bond_size d))
bond-order true true = (omega arith, omega arith)
bond-order true false = (omega arith, omega arith)
bond-order false d = (omega arith, omega arith)

pub block-order : (b d : Bool) → (only b 8 ≤ only b (superframe_size d)) × (only b (plan_size d) ≤ only b (superframe_size d))
block-order true true = (omega arith, omega arith)
block-order true false = (omega arith, omega arith)
block-order false d = (omega arith, omega arith)

pub reaches_all : (s : List ℕ) (k : Present) (n : ℕ) → superframe_end s k ≤ n → Reaches n (needs s k)
reaches_all s k n h =
    let f = bond-order k.bond (has_second s (timeslice_end k)) in
    let g = block-order k.superframe (has_plan s (bond_end s k)) in
    (omega arith, (omega arith, (omega arith, (omega arith, (omega arith, (omega arith, (omega arith, (omega arith, (omega arith, (h, tt))))))))))

-- ---- the answer

module _ (s : List ℕ) where
  pub told-long : 4096 < length s → read_told s ≡ 2 ∷ saturated (length s) ∷ []
  unfolding read_told
  told-long h = simp (lt-ltb _ _ h)

  -- within the limit, what is missing decides
  pub told-within : length s ≤ 4096 → read_told s ≡ short_told (short_of s) (length s) (needs s (present_in s)) (0 ∷ body_size s ∷ [])
  unfolding read_told
  told-within h = simp (le-ltb _ _ h)

  pub told-accepted : body_size s ≤ length s → length s ≤ 4096 → read_told s ≡ 0 ∷ body_size s ∷ []
  unfolding body_size
  told-accepted e h = told-within h ∙ reaches-told (short_of s) (length s) (needs s (present_in s)) _ (reaches_all s (present_in s) (length s) e)

  -- what a body that is accepted reads as, and one that is refused
  pub reads-accepted : body_size s ≤ length s → length s ≤ 4096 → read_of s ≡ record { told = 0 ∷ body_size s ∷ []; body = record_in s }
  reads-accepted e h = simp (told-accepted e h)

  pub reads-refused : (why : Refusal) → numbers why ≡ read_told s → read_of s ≡ record { told = numbers why; body = default_record }
  reads-refused why e = simp (sym e, refused-number why)

  -- accepted is only a body that reaches the size that it dictates, within the limit
  pub accepted-reaches : number_of (read_told s) ≡ 0 → (body_size s ≤ length s) × (length s ≤ 4096)
  unfolding body_size
  accepted-reaches z = go (ltb 4096 (length s)) refl
    where
      reached : Reaches (length s) (needs s (present_in s)) → superframe_end s (present_in s) ≤ length s
      reached r = r.1.1.1.1.1.1.1.1.1.0

      go : (c : Bool) → ltb 4096 (length s) ≡ c → (superframe_end s (present_in s) ≤ length s) × (length s ≤ 4096)
      go true e = let d : ◌≡◌ {A = ℕ} 2 0 = ap number_of (sym (told-long (ltb-true _ _ e))) ∙ z in absurd (omega arith)
      go false e =
          let h : length s ≤ 4096 = ltb-false _ _ e in
          (reached (told-reaches (short_of s) (length s) (needs s (present_in s)) (0 ∷ body_size s ∷ []) (ap number_of (sym (told-within h)) ∙ z)), h)

  -- the place that an accepted body tells is where its tail starts
  pub accepted-tail : (t : ℕ) → 0 ∷ t ∷ [] ≡ read_told s → (body_size s ≡ t) × (t ≤ length s) × (tail_of s ≡ drop t s)
  accepted-tail t e =
      let h = accepted-reaches (ap number_of (sym e)) in
      let d : body_size s ≡ t = ap (λ (l : List ℕ). get_or l 1 0) (sym (told-accepted h.0 h.1) ∙ sym e) in
      (d, rw (← d) h.0, simp (sym e, d))

  pub refused-tail : (why : Refusal) → numbers why ≡ read_told s → tail_of s ≡ []
  refused-tail why e = simp (sym e, refused-number why)
