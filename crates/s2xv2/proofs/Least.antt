-- The least total: the clauses that say what it is; what a body that is refused with 1 tells; that no accepted body that begins with the same bytes has
-- fewer; and that a body which is filled up to it with zeros is accepted.
-- Assumes nothing.
use mathlib.Core.Path.{◌≡◌, refl, sym, ap, subst, ◌∙◌}
use mathlib.Core.List.{List, [], ◌∷◌, ◌++◌}
use mathlib.Core.Bool.{Bool, true, false}
use Prim.Native.Nat.{ℕ, zero, suc, ◌+◌, ◌-◌, ◌≤◌, ◌<◌}
use native.Mathlib.Omega.{arith}
use lib.ListN.{length, get_or, replicate, length-append, length-replicate, get_or-append, get_or-eq_default}
use lib.Dec.{ltb}
use borrow.Author.Tests.{lt-ltb, le-ltb, ltb-true, ltb-false}
use Rattle.wire.specs.Flags.{when, only}
use Rattle.answers.specs.Answer.{numbers, number_of}
use Rattle.answers.specs.Short.{Need, ◌to◌, short_told}
use Rattle.answers.proofs.Short.{Reaches}
use Rattle.s2xv2.specs.Read.{Present, present_in, stream_end, scrambling_end, timeslice_end, header_end, first_id_end, has_second, bond_size, bond_end, block_end, has_plan, superframe_size, superframe_end, body_size, needs, least_total, short_of, read_told}
use Rattle.s2xv2.proofs.Reach.{bond-order, block-order, reaches_all, told-long, told-within, told-accepted, accepted-reaches}
use Rattle.s2xv2.proofs.Sizes.{size-range}

-- ---- what it is

-- three cases: the core is not there; the block is not, as long as it is without a plan id; or that is
by_length : {P : Type 0} (s : List ℕ) → (length s < 18 → P) → (18 ≤ length s → length s < block_end s (present_in s) → P)
    → (18 ≤ length s → block_end s (present_in s) ≤ length s → P) → P
by_length {P} s core block whole = go (ltb (length s) 18) refl (ltb (length s) (block_end s (present_in s))) refl
  where
    go : (b : Bool) → ltb (length s) 18 ≡ b → (c : Bool) → ltb (length s) (block_end s (present_in s)) ≡ c → P
    go true e c f = core (ltb-true _ _ e)
    go false e true f = block (ltb-false _ _ e) (ltb-true _ _ f)
    go false e false f = whole (ltb-false _ _ e) (ltb-false _ _ f)

module _ (s : List ℕ) where
  -- Below 18 bytes it is 18.
  pub least-core : length s < 18 → least_total s ≡ 18
  unfolding least_total
  least-core h = simp (lt-ltb _ _ h)

  -- Until the first eight bytes of a superframe block are there, that counts 8 ..
  pub least-block : 18 ≤ length s → length s < block_end s (present_in s) → least_total s ≡ bond_end s (present_in s) + only (present_in s).superframe 8
  unfolding least_total
  least-block c h = simp (le-ltb _ _ c, lt-ltb _ _ h)

  -- .. and from there the least total is the size that the body dictates.
  pub least_size : 18 ≤ length s → block_end s (present_in s) ≤ length s → least_total s ≡ body_size s
  unfolding least_total
  least_size c h = simp (le-ltb _ _ c, le-ltb _ _ h)

  -- a header that is not there asks for no second id
  no_second : (p : ℕ) → length s ≤ p → has_second s p ≡ false
  no_second p h = rw (get_or-eq_default s 0 {n = p} h) refl

  -- A bond header that is not there counts 5, with its one id.
  pub least-header : 18 ≤ length s → (present_in s).bond ≡ true → length s ≤ timeslice_end (present_in s)
      → least_total s ≡ timeslice_end (present_in s) + 5 + only (present_in s).superframe 8
  least-header c b h =
      let e : bond_end s (present_in s) ≡ timeslice_end (present_in s) + 5 = rw (b, no_second (timeslice_end (present_in s)) h) refl in
      least-block c (omega (arith, e, h)) ∙ ap (λ (n : ℕ). n + only (present_in s).superframe 8) e

-- ---- what a body that is refused with 1 tells

-- its length and its least total, behind a need that is above the first and not above `most`
abbrev Tells : List ℕ → ℕ → List ℕ → Type 0
Tells s most told =
    number_of told ≡ 1
    → (told ≡ 1 ∷ get_or told 1 0 ∷ get_or told 2 0 ∷ length s ∷ least_total s ∷ []) × (length s < get_or told 2 0) × (get_or told 2 0 ≤ most)

-- the first part that is missing is one of a list whose ends are not above `most`; what is told otherwise counts where none of them is missing
first-tells : (s : List ℕ) (most : ℕ) (ns : List Need) (o : List ℕ) → Reaches most ns → (Reaches (length s) ns → Tells s most o)
    → Tells s most (short_told (short_of s) (length s) ns o)
first-tells s most [] o r t = t tt
first-tells s most (n ∷ ns) o r t = go (ltb (length s) n.need) refl (λ h. first-tells s most ns o r.1 (λ w. t (h, w)))
  where
    go : (c : Bool) → ltb (length s) n.need ≡ c → (n.need ≤ length s → Tells s most (short_told (short_of s) (length s) ns o))
        → Tells s most (when c (numbers (short_of s n)) (short_told (short_of s) (length s) ns o))
    go true d more = λ z. (refl, ltb-true _ _ d, r.0)
    go false d more = more (ltb-false _ _ d)

module _ (s : List ℕ) where
  abbrev told_within : List ℕ
  told_within = short_told (short_of s) (length s) (needs s (present_in s)) (0 ∷ body_size s ∷ [])

  tells-core : length s < 18 → Tells s (least_total s) told_within
  tells-core h = first-tells s (least_total s) (1 to 18 ∷ []) _ (omega (arith, least-core s h), tt) (λ w. absurd (omega (arith, h, w.0)))

  tells-block : 18 ≤ length s → length s < block_end s (present_in s) → Tells s (least_total s) told_within
  tells-block c h =
      let k = present_in s in
      let f = bond-order k.bond (has_second s (timeslice_end k)) in
      let e = least-block s c h in
      first-tells s (least_total s)
      (1 to 18 ∷ 2 to stream_end k ∷ 3 to scrambling_end k ∷ 4 to timeslice_end k ∷ 5 to header_end k ∷ 6 to first_id_end k ∷ 6 to bond_end s k
      ∷ 7 to block_end s k ∷ [])
      _ (omega arith, (omega arith, (omega arith, (omega arith, (omega arith, (omega arith, (omega arith, (omega arith, tt))))))))
      (λ w. absurd (omega (arith, w.1.1.1.1.1.1.1.0)))

  tells-size : 18 ≤ length s → block_end s (present_in s) ≤ length s → Tells s (least_total s) told_within
  unfolding body_size
  tells-size c h =
      first-tells s (least_total s) (needs s (present_in s)) _
      (reaches_all s (present_in s) (least_total s) (omega (arith, least_size s c h)))
      (λ w z. absurd (omega arith))

  -- Answer 1 tells, last, the body's length and its least total. The length is below need, and need is not above the least total.
  pub short-told : Tells s (least_total s) (read_told s)
  short-told = go (ltb 4096 (length s)) refl
    where
      go : (b : Bool) → ltb 4096 (length s) ≡ b → Tells s (least_total s) (read_told s)
      go true e = λ z. let n : ◌≡◌ {A = ℕ} 2 1 = ap number_of (sym (told-long s (ltb-true _ _ e))) ∙ z in absurd (omega arith)
      go false e = subst (Tells s (least_total s)) (sym (told-within s (ltb-false _ _ e))) (by_length s tells-core tells-block tells-size)

-- ---- bodies that begin with the same bytes

only-there : (b : Bool) (n : ℕ) → b ≡ true → only b n ≡ n
only-there b n e = rw e refl

only_same : {m n : ℕ} (b : Bool) → (b ≡ true → m ≡ n) → only b m ≡ only b n
only_same true h = h refl
only_same false h = refl

only-most : {m n : ℕ} (b : Bool) → (b ≡ true → m ≤ n) → only b m ≤ only b n
only-most true h = h refl
only-most false h = omega arith

bond-least : (d : Bool) → 5 ≤ bond_size d
bond-least true = omega arith
bond-least false = omega arith

module _ (s u : List ℕ) (m : ℕ) (same : (i : ℕ) → i < m → get_or u i 0 ≡ get_or s i 0) (core : 18 ≤ m) where
  same-present : present_in u ≡ present_in s
  unfolding present_in
  same-present = rw (same 4 (omega arith), same 5 (omega arith), same 6 (omega arith)) refl

  same_second : (p : ℕ) → p < m → has_second u p ≡ has_second s p
  same_second p h = rw (same p h) refl

  same-plan : (p : ℕ) → p + 1 < m → has_plan u p ≡ has_plan s p
  same-plan p h = rw (same (p + 1) h) refl

  -- .. and as many of them as the block takes without a plan id dictate the same size
  same_size : block_end s (present_in s) ≤ m → body_size u ≡ body_size s
  unfolding body_size
  same_size h =
      let k = present_in s in
      let bond : bond_end u k ≡ bond_end s k
      = ap (λ (n : ℕ). timeslice_end k + n) (only_same k.bond (λ e. ap bond_size (same_second (timeslice_end k) (header e)))) in
      ap (λ (p : Present). superframe_end u p) same-present
      ∙ rw bond (ap (λ (n : ℕ). bond_end s k + n) (only_same k.superframe (λ e. ap superframe_size (same-plan (bond_end s k) (block e)))))
    where
      header : (present_in s).bond ≡ true → timeslice_end (present_in s) < m
      header e =
          let d = has_second s (timeslice_end (present_in s)) in
          omega (arith, h, only-there (present_in s).bond (bond_size d) e, bond-least d)

      block : (present_in s).superframe ≡ true → bond_end s (present_in s) + 1 < m
      block e = omega (arith, h, only-there (present_in s).superframe 8 e)

-- ---- no accepted body has fewer bytes

module _ (s t : List ℕ) where
  begins : (i : ℕ) → i < length s → get_or (s ++ t) i 0 ≡ get_or s i 0
  begins = get_or-append s t 0

  -- a second id that is counted is there in the longer body
  second-grows : 18 ≤ length s → (p : ℕ) (b : Bool) → ltb p (length s) ≡ b → bond_size (has_second s p) ≤ bond_size (has_second (s ++ t) p)
  second-grows c p true e = rw (same_second s (s ++ t) (length s) begins c p (ltb-true _ _ e)) (omega arith)
  second-grows c p false e = rw (no_second s p (ltb-false _ _ e)) (bond-least (has_second (s ++ t) p))

  before-block : 18 ≤ length s → length s < block_end s (present_in s) → least_total s ≤ body_size (s ++ t)
  unfolding body_size
  before-block c h =
      let k = present_in s in
      let bond = only-most k.bond (λ e. second-grows c (timeslice_end k) (ltb (timeslice_end k) (length s)) refl) in
      let g = block-order k.superframe (has_plan (s ++ t) (bond_end (s ++ t) k)) in
      rw (least-block s c h, same-present s (s ++ t) (length s) begins c) (omega (arith, bond, g.0))

  size-grows : least_total s ≤ body_size (s ++ t)
  size-grows =
      by_length s
      (λ h. omega (arith, least-core s h, (size-range (s ++ t)).0))
      before-block
      (λ c h. omega (arith, least_size s c h, same_size s (s ++ t) (length s) begins c h))

  -- With whatever bytes behind it a body is accepted, the whole has at least the least total.
  pub least-needed : number_of (read_told (s ++ t)) ≡ 0 → least_total s ≤ length (s ++ t)
  least-needed z = omega (arith, size-grows, (accepted-reaches (s ++ t) z).0)

-- ---- it is reached

zeros : (n i : ℕ) → get_or {A = ℕ} (replicate n 0) i 0 ≡ 0
zeros zero i = refl
zeros (suc n) zero = refl
zeros (suc n) (suc i) = zeros n i

filled : (s : List ℕ) (n i : ℕ) → get_or (s ++ replicate n 0) i 0 ≡ get_or s i 0
filled [] n i = zeros n i
filled (b ∷ s) n zero = refl
filled (b ∷ s) n (suc i) = filled s n i

-- a body with zero bytes behind it, up to its least total
abbrev pub filled_up : List ℕ → List ℕ
filled_up s = s ++ replicate (least_total s - length s) 0

-- the body does not end inside the first eight bytes of a superframe block whose hopping selector is there and set
abbrev pub Believed : List ℕ → Type 0
Believed s = (present_in s).superframe ≡ true → has_plan s (bond_end s (present_in s)) ≡ true → block_end s (present_in s) ≤ length s

module _ (s : List ℕ) (core : 18 ≤ length s) (believed : Believed s) where
  -- then the least total is the size that the body dictates
  believed-size : least_total s ≡ body_size s
  unfolding body_size
  believed-size = by_length s (λ h. absurd (omega (arith, h, core))) before (least_size s)
    where
      plan : length s < block_end s (present_in s) → (present_in s).superframe ≡ true → (b : Bool) → has_plan s (bond_end s (present_in s)) ≡ b → 8 ≡ superframe_size b
      plan h e true p = absurd (omega (arith, believed e p, h))
      plan h e false p = refl

      before : 18 ≤ length s → length s < block_end s (present_in s) → least_total s ≡ superframe_end s (present_in s)
      before c h =
          let p = bond_end s (present_in s) in
          least-block s c h ∙ ap (λ (n : ℕ). p + n) (only_same (present_in s).superframe (λ e. plan h e (has_plan s p) refl))

  -- Filled up to its least total with zero bytes, such a body is accepted.
  pub least-reached : length s ≤ 4096 → number_of (read_told (filled_up s)) ≡ 0
  least-reached h =
      ap number_of (told-accepted (filled_up s) (omega (arith, same, believed-size, long)) (omega (arith, believed-size, (size-range s).1, h, long)))
    where
      long : length (filled_up s) ≡ length s + (least_total s - length s)
      long = length-append s _ ∙ ap (λ (n : ℕ). length s + n) (length-replicate (least_total s - length s) 0)

      same : body_size (filled_up s) ≡ body_size s
      same = same_size s (filled_up s) (18 + block_end s (present_in s)) (λ i _. filled s (least_total s - length s) i) (omega arith) (omega arith)
