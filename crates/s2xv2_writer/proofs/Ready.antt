-- Laws of a record that a quick look finds ready: list B finds nothing in it (`ready-clear`), and what is stored of it is what the writer leaves
-- (`ready-wrote`), which is not long (`wrote-short`).
-- Assumes nothing.
use mathlib.Core.Path.{◌≡◌, sym, ap, ◌∙◌}
use mathlib.Core.List.{List, [], ◌∷◌, ◌++◌}
use Prim.Native.Nat.{ℕ, ◌≤◌}
use native.Mathlib.Omega.{arith}
use lib.ListN.{length, drop, get_or}
use Rattle.answers.specs.Answer.{number_of}
use Rattle.answers.proofs.Tests.{Clear, first-clear}
use Rattle.s2xv2.specs.Encode.{encode, encoded_length}
use Rattle.s2xv2.specs.ListB.{list_b, unwritable}
use Rattle.s2xv2.specs.declared.record.S2Xv2SatelliteDeliverySystem.{S2Xv2SatelliteDeliverySystem}
use Rattle.s2xv2.proofs.Written.{Writable, accepted-writable, told-written, written-accepted}
use Rattle.s2xv2_writer.specs.Wrote.{Wrote}

module _ (r : S2Xv2SatelliteDeliverySystem) (t : List ℕ) where
  pub ready-clear : (room : ℕ) → Writable r t room → Clear (list_b r)
  unfolding unwritable
  ready-clear room w = first-clear 0 (list_b r) w.carried

  pub ready-wrote : (l after : List ℕ) (n : ℕ) → Writable r t (length l) → n ≡ encoded_length r t → after ≡ encode r t ++ drop n l → Wrote n r t l after
  ready-wrote l after n w e s =
      let d = told-written r t w.consistent w.within (length l) w.fits w.carried in
      record {
        told = d ∙ ap (λ (n : ℕ). 0 ∷ n ∷ []) (sym e);
        left = s ∙ ap (λ (n : ℕ). encode r t ++ drop n l) e ∙ sym (written-accepted r t l _ (sym d));
      }

  -- .. and is not long
  pub wrote-short : (l after : List ℕ) (n : ℕ) → Wrote n r t l after → n ≤ 4096
  wrote-short l after n w =
      let k = accepted-writable r t (length l) (ap number_of w.told) in
      let e : n ≡ encoded_length r t = ap (λ (l : List ℕ). get_or l 1 0) (sym w.told ∙ told-written r t k.consistent k.within (length l) k.fits k.carried) in
      omega (arith, k.within)
