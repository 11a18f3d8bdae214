-- The staged descriptor: the envelope, the body as the writer writes it into zeros, and the zeros that it leaves, are the descriptor with 0 after it.
-- So it is in zeros that are lent (`stages`), and what is staged so and fits is begun (`begun`).
-- Assumes nothing.
use mathlib.Core.Path.{◌≡◌, sym, ap, ◌∙◌}
use mathlib.Core.Bool.{true}
use mathlib.Core.List.{List, [], ◌∷◌, ◌++◌, append-nil}
use Prim.Native.Nat.{ℕ, suc, ◌+◌, ◌-◌, ◌≤◌}
use native.Mathlib.Omega.{arith}
use lib.ListN.{length, get_or, drop, set, replicate, length-replicate, replicate-append-replicate}
use lib.Seq.{drop_at}
use borrow.Rule.Slice.PartMut.{mid_of, put_mid}
use Rattle.answers.specs.Answer.{number_of}
use Rattle.s2xv2.specs.declared.record.S2Xv2SatelliteDeliverySystem.{S2Xv2SatelliteDeliverySystem}
use Rattle.s2xv2.specs.Encode.{encode, encoded_length}
use Rattle.s2xv2.specs.Write.{write_told, written}
use Rattle.s2xv2.proofs.Whole.{encode-length}
use Rattle.s2xv2.proofs.Written.{Writable, accepted-writable, told-written}
use Rattle.s2xv2_writer.specs.Wrote.{Wrote}
use Rattle.form.specs.Envelope.{tag, extension}
use Rattle.job.specs.declared.job.Job.{Job}
use Rattle.job.specs.Job.{job_of, fits_in}
use Rattle.begin.specs.Begin.{padded, new_job, size_of, descriptor_of, Sized, Staged, stage_told, record_told, Begins, answered}
use Rattle.begin.proofs.Telling.{accepts, told-stores, told-fits, told_fit}

drop-zeros : (e m : ℕ) → e ≤ m → drop {A = ℕ} e (replicate m 0) ≡ replicate (m - e) 0
drop-zeros e m h =
    let q : e + (m - e) ≡ m = omega arith in
    ap (λ (k : ℕ). drop {A = ℕ} e (replicate k 0)) (sym q)
    ∙ ap (drop {A = ℕ} e) (sym (replicate-append-replicate e (m - e) 0))
    ∙ drop_at {A = ℕ} (replicate e 0) (replicate (m - e) 0) e (length-replicate e 0)

-- what the writer leaves of a buffer that it accepts
module _ (r : S2Xv2SatelliteDeliverySystem) (tail : List ℕ) where
  writes : (m : ℕ) (buf : List ℕ) → 0 ∷ m ∷ [] ≡ write_told r tail (length buf) → written r tail buf ≡ encode r tail ++ drop (encoded_length r tail) buf
  unfolding written
  writes m buf e = rw (← e)

-- a descriptor of d bytes that fits the staged ones
module _ (d : ℕ) (r : S2Xv2SatelliteDeliverySystem) (tail : List ℕ) (size : d ≡ size_of r tail) (small : encoded_length r tail ≤ 254) where
  staged-is : (body : List ℕ) → body ≡ encode r tail ++ drop (encoded_length r tail) (replicate 254 0)
      → tag ∷ (d - 2) ∷ extension ∷ (body ++ []) ≡ padded (descriptor_of r tail)
  unfolding padded
  staged-is body e =
      let l = encode-length r tail in
      let q : d - 2 ≡ suc (length (encode r tail)) = omega arith in
      let k : 257 - length (descriptor_of r tail) ≡ 254 - encoded_length r tail = omega arith in
      rw (append-nil, e, drop-zeros (encoded_length r tail) 254 small, q, k)

  size_is : d ≡ length (descriptor_of r tail)
  size_is = let l = encode-length r tail in omega arith

  job_is : (n : ℕ) → job_of (padded (descriptor_of r tail)) n d 0 ≡ new_job n (descriptor_of r tail)
  job_is n = ap {B = Job} (λ (k : ℕ). job_of (padded (descriptor_of r tail)) n k 0) size_is

module _ {n d : ℕ} {r : S2Xv2SatelliteDeliverySystem} {tail : List ℕ} (S : Sized n d r tail) (fits : d ≤ n) where
  pub small : encoded_length r tail ≤ 254
  small = let s = S.slot in let e = S.size in omega arith

  -- where the writer accepts, the job is begun
  pub staged-accepted : (m : ℕ) (body : List ℕ) → 0 ∷ m ∷ [] ≡ write_told r tail 254 → body ≡ written r tail (replicate 254 0)
      → ◌≡◌ {A = Begins} (record { told = 0 ∷ (n + 2) ∷ []; job = job_of (tag ∷ (d - 2) ∷ extension ∷ (body ++ [])) n d 0 }) (answered (stage_told n r) n r tail)
  staged-accepted m body e w =
      let bytes = staged-is d r tail S.size small body (w ∙ writes r tail m (replicate 254 0) e) in
      accepts n r tail (stage_told n r) (n + 2) _ (told-stores n r tail 254 S.consistent S.within small m e)
      (ap {B = Job} (λ (t : List ℕ). job_of t n d 0) bytes ∙ job_is d r tail S.size small n)

-- ---- staged in zeros that are lent

module _ (z : List ℕ) (zeros : z ≡ replicate 257 0) where
  lent-part : mid_of 3 (length z - 3) z ≡ replicate 254 0
  lent-part = ap (λ (l : List ℕ). mid_of 3 (length l - 3) l) zeros

  laid : (body : List ℕ) (v : ℕ) → set (set (set (put_mid 3 (length z - 3) z body) 0 tag) 1 v) 2 extension ≡ tag ∷ v ∷ extension ∷ (body ++ [])
  laid body v = ap (λ (l : List ℕ). set (set (set (put_mid 3 (length l - 3) l body) 0 tag) 1 v) 2 extension) zeros

  module _ (r : S2Xv2SatelliteDeliverySystem) (tail body : List ℕ) (n : ℕ) (wrote : Wrote n r tail (mid_of 3 (length z - 3) z) body) where
    told : write_told r tail 254 ≡ 0 ∷ n ∷ []
    told = ap (λ (l : List ℕ). write_told r tail (length l)) (sym lent-part) ∙ wrote.told

    can : Writable r tail 254
    can = accepted-writable r tail 254 (ap number_of told)

    pub length-told : (n ≡ encoded_length r tail) × (encoded_length r tail ≤ 254)
    length-told =
        let tells = told-written r tail can.consistent can.within 254 can.fits can.carried in
        (ap (λ (l : List ℕ). get_or l 1 0) (sym told ∙ tells), can.fits)

    pub stages : Staged (n + 3) r tail (set (set (set (put_mid 3 (length z - 3) z body) 0 tag) 1 (n + 1)) 2 extension)
    stages =
        let f = length-told.0 in
        let s : n + 3 ≡ size_of r tail = omega arith in
        let v : n + 1 ≡ n + 3 - 2 = omega arith in
        let w = wrote.left ∙ ap (written r tail) lent-part ∙ writes r tail n (replicate 254 0) (sym told) in
        let b = staged-is (n + 3) r tail s can.fits body w in
        record { size = s; written = ap number_of told; bytes = laid body (n + 1) ∙ ap (λ (v : ℕ). tag ∷ v ∷ extension ∷ (body ++ [])) v ∙ b }

-- what is staged and fits a slot of n bytes is begun there
pub begun : (n : ℕ) (r : S2Xv2SatelliteDeliverySystem) (tail staged : List ℕ) (d : ℕ) → (21 ≤ n) × (n ≤ 257) → Staged d r tail staged → fits_in d n ≡ true
    → ◌≡◌ {A = Begins} (record { told = 0 ∷ (n + 2) ∷ []; job = job_of staged n d 0 }) (answered (record_told n r tail) n r tail)
begun n r tail staged d slot S fits =
    let can = accepted-writable r tail 254 S.written in
    let sized : Sized n d r tail = record { slot = slot; size = S.size; within = can.within; consistent = can.consistent } in
    let tells = told-written r tail can.consistent can.within 254 can.fits can.carried in
    let told =
    told-stores n r tail 254 can.consistent can.within can.fits (encoded_length r tail) (sym tells)
    ∙ told-fits sized fits ∙ told_fit n r tail can.consistent can.within in
    accepts n r tail (record_told n r tail) (n + 2) _ told (ap {B = Job} (λ (t : List ℕ). job_of t n d 0) S.bytes ∙ job_is d r tail S.size can.fits n)
