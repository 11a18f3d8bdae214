-- What a reading shows: of an accepted body its record (`shows`) and where its tail starts (`ends`), of any other the default record (`shows-refused`) and none
-- (`ends-refused`). An end is what is told (`tells-end`), none is a refusal's (`tells_none`), and the record shown is what its plain numbers
-- mean (`shown-back`).
-- Assumes nothing.
use Rattle.std.specs.Prelude.{◌≡◌, ℕ, ◌<◌, ◌≤◌, Bool, true, false, eqb, List, [], ◌∷◌, length, get_or, Some, None}
use mathlib.Core.Path.{refl, sym, ap, ◌∙◌}
use native.Mathlib.Omega.{arith}
use borrow.Author.Tests.{eqb-true, ne_eqb}
use Rattle.wire.specs.Flags.{when}
use Rattle.answers.specs.Answer.{number_of}
use Rattle.s2xv2.specs.Default.{default_record}
use Rattle.s2xv2.specs.Read.{Reading, body_size, read_told, read_of, record_at, record_in}
use Rattle.s2xv2.proofs.Reach.{told-accepted, accepted-reaches, reads-accepted}
use Rattle.s2xv2_plain.specs.Output.{numbers_of, bytes_of}
use Rattle.s2xv2_plain.specs.Input.{meant}
use Rattle.s2xv2_plain.proofs.Back.{back}
use Rattle.s2xv2_reader.specs.Seen.{end_in}

module _ (s : List ℕ) where
  -- ---- a body that is accepted

  pub shows : body_size s ≤ length s → length s ≤ 4096 → record_in s ≡ (read_of s).body
  shows e h = sym (ap (λ (x : Reading). x.body) (reads-accepted s e h))

  pub ends : body_size s ≤ length s → length s ≤ 4096 → Some (body_size s) ≡ end_in (read_told s)
  ends e h = simp (told-accepted s e h)

  -- ---- one that is not, since it ends inside a part or is too long

  refused : (length s ≤ 4096 → length s < body_size s) → eqb (number_of (read_told s)) 0 ≡ false
  refused h = ne_eqb _ _ (λ z. let d = accepted-reaches s z in omega (arith, d.0, h d.1))

  pub shows-refused : (length s ≤ 4096 → length s < body_size s) → default_record ≡ (read_of s).body
  shows-refused h = simp (refused h)

  pub ends-refused : (length s ≤ 4096 → length s < body_size s) → None ≡ end_in (read_told s)
  ends-refused h = simp (refused h)

  -- ---- either

  pub tells-end : (q : ℕ) → Some q ≡ end_in (read_told s) → 0 ∷ q ∷ [] ≡ read_told s
  tells-end q e = go (eqb (number_of (read_told s)) 0) refl e
    where
      go : (c : Bool) → eqb (number_of (read_told s)) 0 ≡ c → Some q ≡ when c (Some (get_or (read_told s) 1 0)) None → 0 ∷ q ∷ [] ≡ read_told s
      go true t d =
          let h = accepted-reaches s (eqb-true _ _ t) in
          let f = told-accepted s h.0 h.1 in
          let g : q ≡ get_or (read_told s) 1 0 = cc in
          ap (λ (x : ℕ). 0 ∷ x ∷ []) (g ∙ ap (λ (l : List ℕ). get_or l 1 0) f) ∙ sym f
      go false t d = cc

  pub tells_none : None ≡ end_in (read_told s) → eqb (number_of (read_told s)) 0 ≡ false
  tells_none e = go (eqb (number_of (read_told s)) 0) refl e
    where
      go : (c : Bool) → eqb (number_of (read_told s)) 0 ≡ c → None ≡ when c (Some (get_or (read_told s) 1 0)) None → eqb (number_of (read_told s)) 0 ≡ false
      go true t d = cc
      go false t d = t

  two-ids : (c : Bool) → length (when c (record_in s) default_record).secondary_delivery_system_ids ≡ 2
  unfolding record_at default_record
  two-ids true = refl
  two-ids false = refl

  pub shown-back : meant (numbers_of (read_of s).body) (bytes_of (read_of s).body) ≡ (read_of s).body
  shown-back = back (read_of s).body (two-ids (eqb (number_of (read_told s)) 0))
