-- The text of a body by what the reader answers: `accepted-text` and `refused-text`; `tail_within`: an accepted body's tail starts inside it.
-- Assumes nothing.
use Rattle.std.specs.Prelude.{◌≡◌, ℕ, ◌-◌, ◌≤◌, List, [], ◌∷◌, length}
use mathlib.Core.Path.{sym, ◌∙◌, ap}
use lib.ListN.{length-drop}
use Rattle.answers.proofs.Answers.{refused-number}
use Rattle.s2xv2.proofs.Reach.{accepted-tail}
use Rattle.answers.specs.Answer.{numbers}
use Rattle.s2xv2.specs.Read.{Reading, read_told, read_of, tail_of}
use Rattle.answers.specs.declared.answer.Refusal.{Refusal}
use Rattle.s2xv2_reader.specs.Seen.{seen}
use Rattle.s2xv2_reader.specs.declared.Parsed.{Parsed}
use Rattle.lines.specs.Line.{refused_of}
use Rattle.s2xv2_text.specs.Dump.{body_of, dump_of}
use Rattle.std.specs.Prelude.{Result, Ok, Err}

module _ (s : List ℕ) (r : Result Parsed Refusal) (e : seen r ≡ read_of s) where
  -- where the tail starts is within the body
  pub tail_within : (p : Parsed) → r ≡ Ok p → p.tail_start ≤ length s
  tail_within p h = (accepted-tail s p.tail_start (ap (λ (x : Reading). x.told) (ap seen (sym h) ∙ e))).1

  pub accepted-text : (p : Parsed) → r ≡ Ok p → body_of (length s) p.body (length s - p.tail_start) ≡ dump_of s
  unfolding dump_of
  accepted-text p h =
      let q : seen (Ok p) ≡ read_of s = ap seen (sym h) ∙ e in
      let t : read_told s ≡ 0 ∷ p.tail_start ∷ [] = sym (ap (λ (x : Reading). x.told) q) in
      let b : p.body ≡ (read_of s).body = ap (λ (x : Reading). x.body) q in
      let l : length s - p.tail_start ≡ length (tail_of s) = sym (ap length (accepted-tail s p.tail_start (sym t)).2 ∙ length-drop p.tail_start s) in
      rw (b, l, t)

  pub refused-text : (why : Refusal) → r ≡ Err why → refused_of (numbers why) ≡ dump_of s
  unfolding dump_of
  refused-text why h =
      let t : read_told s ≡ numbers why = sym (ap (λ (x : Reading). x.told) (ap seen (sym h) ∙ e)) in
      rw (t, refused-number why)
