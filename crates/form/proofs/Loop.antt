-- The walk as a loop: descriptors lead to the place that it has come to, and the place of ours is in hand. One law for each way through a turn.
-- Assumes nothing.
use mathlib.Core.Path.{◌≡◌, refl, sym, subst, ◌∙◌}
use mathlib.Core.List.{List}
use mathlib.Core.Option.{Option, none, some}
use Rattle.std.specs.Prelude as S
use Rattle.std.specs.Option.{is_some}
use mathlib.Core.Bool.{true, false, false≢true}
use Prim.Native.Nat.{ℕ, ◌+◌, ◌≤◌, ◌<◌}
use native.Mathlib.Decide.{dec_le, ℕ_discrete}
use native.Mathlib.Omega.{arith}
use lib.ListN.{length}
use Rattle.form.specs.Envelope.{tag, stuffing_tag}
use Rattle.form.specs.Form.{byte_at, form_of}
use Rattle.form.specs.Bytewise.{behind, ours_at, Upto, Cause}
use Rattle.form.specs.Bytewise as U
use Rattle.form.specs.declared.good.Form.TheVariants as F
use Rattle.form.proofs.Fitting.{there-facts, is-there}
use Rattle.form.proofs.Answers.{Good, tells-broken, tells-good}

-- what the loop has in hand, as the definitions have it
abbrev pub in_hand : S.Option ℕ → Option ℕ
in_hand S.None = none
in_hand (S.Some a) = some a

empty-hand : (o : S.Option ℕ) → is_some o ≡ false → in_hand o ≡ none
empty-hand S.None e = refl
empty-hand (S.Some a) e = absurd (false≢true (sym e))

full-hand : (s : List ℕ) (at : ℕ) (o : S.Option ℕ) → is_some o ≡ true → behind s at ≤ length s → byte_at s at ≡ tag → Cause s at (in_hand o)
full-hand s at S.None e h t = absurd (false≢true e)
full-hand s at (S.Some a) e h t = U.second {a = a} h t

module _ (s : List ℕ) (at : ℕ) (o : S.Option ℕ) (u : Upto s at (in_hand o)) where
  -- on
  pub on-stuffing : byte_at s at ≡ stuffing_tag → (e : ℕ) → e ≡ behind s at → e ≤ length s → Upto s e (in_hand o)
  on-stuffing t e q h = U.stuffing {at = at} {e = e} u t q h

  pub on-ours : ours_at s at ≡ true → is_some o ≡ false → (e : ℕ) → e ≡ behind s at → e ≤ length s → Upto s e (some at)
  on-ours i h e q k =
      let f = there-facts s at i in
      let v : Upto s at none = rw (empty-hand o h) at u in
      U.ours {at = at} {e = e} v f.0 f.1.0 f.1.1 q k

  module _ (least : 21 ≤ length s) (most : length s ≤ 257) where
    -- broken here
    broke : Cause s at (in_hand o) → F.Broken at ≡ form_of s
    broke c = tells-broken s least most at (in_hand o) u c

    pub broke-past : at < length s → length s < behind s at → F.Broken at ≡ form_of s
    broke-past l h = by (dec_le (at + 2) (length s))
      where
        by : Dec (at + 2 ≤ length s) → F.Broken at ≡ form_of s
        by (yes k) = broke (U.runs-past k h)
        by (no k) = broke (U.one-left (omega arith))

    pub broke-second : behind s at ≤ length s → (byte_at s at ≡ stuffing_tag → ⊥) → is_some o ≡ true → F.Broken at ≡ form_of s
    broke-second h n l = by (ℕ_discrete (byte_at s at) tag)
      where
        by : Dec (byte_at s at ≡ tag) → F.Broken at ≡ form_of s
        by (yes t) = broke (full-hand s at o l h t)
        by (no t) = broke (U.foreign h n t)

    pub broke-other : behind s at ≤ length s → (byte_at s at ≡ stuffing_tag → ⊥) → ours_at s at ≡ false → F.Broken at ≡ form_of s
    broke-other h n i = by (ℕ_discrete (byte_at s at) tag) (dec_le 1 (byte_at s (at + 1)))
      where
        by : Dec (byte_at s at ≡ tag) → Dec (1 ≤ byte_at s (at + 1)) → F.Broken at ≡ form_of s
        by (no t) l = broke (U.foreign h n t)
        by (yes t) (no l) = broke (U.length-zero h t (omega arith))
        by (yes t) (yes l) = broke (U.other-third h t l (λ x. false≢true (sym i ∙ sym (is-there s at (t, (l, x))))))

    -- at the end
    module _ (e : at ≡ length s) where
      ended : Good s (in_hand o)
      ended = record { least = least; most = most; upto = subst (λ (x : ℕ). Upto s x (in_hand o)) e u }

      pub ended-ours : {a : ℕ} → o ≡ S.Some a → F.Ours a ≡ form_of s
      ended-ours {a} h = let g : Good s (some a) = rw h at ended in sym (tells-good s (some a) g)

      pub ended-empty : o ≡ S.None → F.Empty ≡ form_of s
      ended-empty h = let g : Good s none = rw h at ended in sym (tells-good s none g)
