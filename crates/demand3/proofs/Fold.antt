-- DEMAND 3 after k stores: the job's stores lay a cover over the slot, the laws of the form give the five facts that `safe` asks, and the
-- body reads as it was written.
-- Assumes nothing.
-- `middle-safe` and `middle-ends` are the same for any middle that leaves the right bytes.
use mathlib.Core.Path.{◌≡◌, refl, ap, ◌∙◌}
use mathlib.Core.List.{List, [], ◌∷◌, ◌++◌, append-nil}
use mathlib.Core.Bool.{true}
use Prim.Native.Nat.{ℕ, suc, ◌+◌, ◌-◌, ◌≤◌}
use native.Mathlib.Omega.{arith}
use native.Mathlib.Decide.{ℕ_discrete}
use borrow.Author.Tests.{eq-eqb, ne_eqb}
use lib.ListN.{length, take, drop, set, drop_of_length-le}
use lib.Seq.{sets-eq}
use Rattle.wire.specs.Parts.{sizes}
use Rattle.s2xv2.specs.declared.record.S2Xv2SatelliteDeliverySystem.{S2Xv2SatelliteDeliverySystem}
use Rattle.s2xv2.specs.Read.{Reading, tail_of}
use Rattle.s2xv2.specs.Encode.{parts_of, encode, encoded_length}
use Rattle.s2xv2.proofs.Whole.{encode-length}
use Rattle.s2xv2.proofs.Round.{read-encode, tail-encode}
use Rattle.stores.specs.declared.store.Store.{Store}
use Rattle.stores.specs.Run.{run, upwards, Within}
use Rattle.stores.proofs.Laws.{upwards-length, upwards-run, upwards-within}
use Rattle.form.specs.Envelope.{tag, stuffing_tag, envelope, holding}
use Rattle.form.specs.Form.{byte_at, good_form}
use Rattle.slot.specs.Read.{Shown, shows_empty, shows_body, placed, shown, ReadsAs}
use Rattle.form.proofs.GoodForm.{form-size}
use Rattle.slot.proofs.Laws.{cover, retag, retag-same, image}
use Rattle.job.specs.Stores.{behind, covered, stores}
use Rattle.job.specs.Job.{fits_in}
use Rattle.begin.specs.Begin.{size_of, descriptor_of}
use Rattle.job.proofs.Lists.{behind-length}
use Rattle.job.proofs.Fairness.{fits-facts}
use Rattle.demand3.specs.Demand3.{Ready, job_stores, holds, after_first, reads_after, due}
use Rattle.demand3.proofs.Covered.{under, after-all, Phases, safe}

-- ---- the first store, by the first tag
first_made : (s : List ℕ) → good_form s ≡ true → ReadsAs (set s 0 stuffing_tag) (after_first s)
first_made s g = by (ℕ_discrete (byte_at s 0) tag)
  where
    by : Dec (byte_at s 0 ≡ tag) → ReadsAs (set s 0 stuffing_tag) (after_first s)
    by (yes t) = rw (eq-eqb _ _ t) (retag s g t)
    by (no t) = rw (ne_eqb _ _ t, retag-same s g t) (record { form = g; reads = refl })

-- ---- any body, and any middle
module _ (s body : List ℕ) (fits : fits_in (length (envelope body)) (length s) ≡ true) where
  -- the two bytes in front and what is behind them are the slot that holds the body
  pub uncovered : tag ∷ (length (envelope body) - 2) ∷ behind (length s) (envelope body) ≡ holding (length s) body
  unfolding behind holding
  uncovered =
      let e : length (envelope body) - 2 ≡ suc (length body) = omega arith in
      ap (λ (x : ℕ). tag ∷ x ∷ behind (length s) (envelope body)) e

  -- THE ONE PLACE that meets the laws of the form
  phases : good_form s ≡ true
      → Phases ReadsAs (length s) (length (envelope body)) s (behind (length s) (envelope body)) (shown s) (after_first s) shows_empty (shows_body 0 body)
  phases g =
      let f = fits-facts (length (envelope body)) (length s) fits in
      let n = form-size s g in
      let fin : ReadsAs (tag ∷ (length (envelope body) - 2) ∷ behind (length s) (envelope body)) (shows_body 0 body) =
      rw uncovered (image (length s) body n.0 n.1 f.0 f.1) in
      record {
        none = record { form = g; reads = refl };
        one = first_made s g;
        cover = λ t l a e. cover t (omega arith) (omega arith) a (omega arith);
        late = retag (tag ∷ (length (envelope body) - 2) ∷ behind (length s) (envelope body)) fin.form refl;
        all = fin;
      }

  module _ (middle : List Store) where
    pub middle-ends : (t : List ℕ) → run middle (under (length s) t) ≡ stuffing_tag ∷ (length s - 2) ∷ behind (length s) (envelope body)
        → run (covered (length s) (length (envelope body)) middle) t ≡ holding (length s) body
    middle-ends t right = after-all (length s) (length (envelope body)) middle t (behind (length s) (envelope body)) right ∙ uncovered

    pub middle-safe : good_form s ≡ true → Within 2 (length s) middle
        → run middle (under (length s) s) ≡ stuffing_tag ∷ (length s - 2) ∷ behind (length s) (envelope body)
        → (k : ℕ) → ReadsAs (run (take k (covered (length s) (length (envelope body)) middle)) s) (reads_after (shown s) (after_first s) shows_empty (shows_body 0 body) (length middle + 4) k)
    middle-safe g w right =
        let n = form-size s g in
        safe ReadsAs (length s) (length (envelope body)) s (behind (length s) (envelope body)) (shown s) (after_first s) shows_empty (shows_body 0 body) (phases g) refl (omega arith) middle w right

-- ---- the job's middle: every byte is stored, upwards
up_right : (n : ℕ) (b s : List ℕ) → length s ≡ n → length b ≡ n - 2 → 2 ≤ n → run (upwards 2 b) (under n s) ≡ stuffing_tag ∷ (n - 2) ∷ b
up_right n b [] e l h = absurd (omega arith)
up_right n b (x ∷ []) e l h = absurd (omega arith)
up_right n b (x ∷ y ∷ r) e l h =
    let q : drop (2 + length b) (stuffing_tag ∷ (n - 2) ∷ r) ≡ [] = drop_of_length-le (stuffing_tag ∷ (n - 2) ∷ r) {i = 2 + length b} (omega arith) in
    upwards-run 2 b (stuffing_tag ∷ (n - 2) ∷ r)
    ∙ sets-eq b (stuffing_tag ∷ (n - 2) ∷ r) 2 (omega arith)
    ∙ ap (λ (t : List ℕ). (stuffing_tag ∷ (n - 2) ∷ b) ++ t) q
    ∙ append-nil (stuffing_tag ∷ (n - 2) ∷ b)

module _ (s body : List ℕ) (fits : fits_in (length (envelope body)) (length s) ≡ true) where
  abbrev middle : List Store
  middle = upwards 2 (behind (length s) (envelope body))

  long : length (behind (length s) (envelope body)) ≡ length s - 2
  long = let f = fits-facts (length (envelope body)) (length s) fits in behind-length (length s) (envelope body) (omega arith) f.0

  right : (t : List ℕ) → length t ≡ length s → run middle (under (length s) t) ≡ stuffing_tag ∷ (length s - 2) ∷ behind (length s) (envelope body)
  right t e =
      let f = fits-facts (length (envelope body)) (length s) fits in
      up_right (length s) (behind (length s) (envelope body)) t e long (omega arith)

  -- All stores made leave the same bytes in every slot of that size, whatever stood there.
  pub ends : (t : List ℕ) → length t ≡ length s → run (stores (length s) (envelope body)) t ≡ holding (length s) body
  unfolding stores
  ends t e = middle-ends s body fits middle t (right t e)

  pub body-safe : good_form s ≡ true → (k : ℕ)
      → ReadsAs (run (take k (stores (length s) (envelope body))) s) (reads_after (shown s) (after_first s) shows_empty (shows_body 0 body) (length s + 2) k)
  unfolding stores
  body-safe g k =
      let n = form-size s g in
      let l = long in
      let e : length middle + 4 ≡ length s + 2 = rw (upwards-length, l) (omega arith) in
      let w : Within 2 (length s) middle = upwards-within 2 2 (length s) (behind (length s) (envelope body)) (omega arith) (rw l (omega arith)) in
      rw (← e) (middle-safe s body fits middle g w (right s refl) k)

-- ---- a record and its tail
pub size_is : (r : S2Xv2SatelliteDeliverySystem) (tail : List ℕ) → length (descriptor_of r tail) ≡ size_of r tail
size_is r tail = let e = encode-length r tail in omega arith

pub fits-it : {s : List ℕ} {r : S2Xv2SatelliteDeliverySystem} {tail : List ℕ} → Ready s r tail → fits_in (length (descriptor_of r tail)) (length s) ≡ true
fits-it {s} {r} {tail} R = rw (size_is r tail) R.fits

-- what the slot's body shows is the record and the tail
shows-it : {s : List ℕ} {r : S2Xv2SatelliteDeliverySystem} {tail : List ℕ} → Ready s r tail → shows_body 0 (encode r tail) ≡ holds r tail
unfolding shows_body encoded_length
shows-it {s} {r} {tail} R =
    let n = form-size s R.form in
    let f = fits-facts (size_of r tail) (length s) R.fits in
    let l : encoded_length r tail ≤ 4096 = omega arith in
    let e = read-encode r tail R.consistent R.writable R.held R.bytes l in
    let z = encode-length r tail in
    let q : length (encode r tail) - sizes (parts_of r) ≡ length tail = omega arith in
    ap {B = Shown} (λ (x : Reading). record {
      reading = record { told = placed 0 (length (encode r tail)) x.told; body = x.body };
      tail = tail_of (encode r tail);
    }) e
    ∙ rw (q, tail-encode r tail R.consistent R.writable R.held R.bytes l)

-- DEMAND 3. After any number of the job's stores the slot is in good form, and reads as before, as empty, or as that record and tail: which one is said by
-- the number of stores, and after the first one by the slot's first tag.
pub demand3 : {s : List ℕ} {r : S2Xv2SatelliteDeliverySystem} {tail : List ℕ} → Ready s r tail → (k : ℕ) → ReadsAs (run (take k (job_stores s r tail)) s) (due s r tail k)
demand3 {s} {r} {tail} R k = rw (← shows-it R) (body-safe s (encode r tail) (fits-it R) R.form k)
