-- What was read can be written: neither list finds anything in it, its numbers are within their types, and the wire carries all of it.
-- Assumes nothing.
use mathlib.Core.Path.{◌≡◌, refl}
use mathlib.Core.List.{List, [], ◌∷◌}
use mathlib.Core.Bool.{Bool, true, false}
use Prim.Native.Nat.{ℕ, ◌+◌, ◌^◌, ◌<◌}
use native.Mathlib.Omega.{arith}
use lib.Dec.{ltb}
use lib.Pow.{pow_pos}
use borrow.Author.Tests.{lt-leb}
use Rattle.wire.specs.Flags.{when, is_one, and, not, differ, only}
use Rattle.wire.specs.Bits.{bits}
use Rattle.wire.specs.Widths.{Bytes, wide}
use Rattle.wire.proofs.Cut.{fit_cut}
use Rattle.s2xv2.specs.Table144b as T
use Rattle.s2xv2.specs.Table144c.{mode_of, has_selector}
use Rattle.s2xv2.specs.Read.{Present, present_in, stream_end, scrambling_end, timeslice_end, has_second, bond_end, has_plan, superframe_at, count_if, record_at, record_in}
use Rattle.wire.specs.Count.{less_one}
use Rattle.s2xv2.specs.ListA.{in_superframe, list_a, inconsistency}
use Rattle.s2xv2.specs.ListB.{superframe_b, list_b, unwritable}
use Rattle.s2xv2.specs.Carried.{carried_superframe, carried_id, carried}
use Rattle.s2xv2.specs.Held.{HeldSuperframe, Held}
use Rattle.s2xv2.specs.declared.superframe.S2Xv2Superframe.{S2Xv2Superframe}
use Rattle.s2xv2.proofs.Modes.{code-mode, mode-named}
use Rattle.answers.proofs.Tests.{Clear, clear_first}
use Rattle.s2xv2.proofs.Back.{nibble-back}
use Rattle.std.specs.Prelude.{is_some}
use Rattle.std.specs.Option.{unwrap_or}
use Rattle.std.specs.Bool.{then_some}

-- ---- tests that fail

not_wide : (w v : ℕ) → v < 2 ^ w → wide w v ≡ false
not_wide w v h = lt-leb _ _ h

-- what a flag says is there, is there as the flag says
said8 : (t : Bool) (v : ℕ) → differ (is_some (then_some t v)) t ≡ false
said8 true v = refl
said8 false v = refl

said_bool : (t b : Bool) → differ (is_some (then_some t b)) t ≡ false
said_bool true b = refl
said_bool false b = refl

said_superframe : (t : Bool) (f : S2Xv2Superframe) → differ (is_some (then_some t f)) t ≡ false
said_superframe true f = refl
said_superframe false f = refl

index-said : (has b : Bool) (v : ℕ) → and (is_some (then_some (and has b) v)) (not (unwrap_or (then_some has b) false)) ≡ false
index-said true true v = refl
index-said true false v = refl
index-said false b v = refl

sffi-said : (t : Bool) (v : ℕ) → and (is_some (then_some t v)) (not t) ≡ false
sffi-said true v = refl
sffi-said false v = refl

plan-said : (t : Bool) (v : ℕ) → and (is_some (then_some t v)) (not t) ≡ false
plan-said true v = refl
plan-said false v = refl

-- bonds are counted only where there are some
counted : (t d : Bool) → and (ltb 0 (count_if t d)) (not t) ≡ false
counted true true = refl
counted true false = refl
counted false d = refl

count-written : (t d : Bool) → and t (wide 1 (less_one (count_if t d))) ≡ false
count-written true true = refl
count-written true false = refl
count-written false d = refl

-- ---- list A

module _ (s : List ℕ) where
  abbrev k : Present
  k = present_in s

  -- the mode's code, the top bit of byte 6, and where the superframe block stands
  abbrev mode : ℕ
  mode = bits s 4 0 4

  abbrev top : Bool
  top = is_one (bits s 6 0 1)

  abbrev block : ℕ
  block = bond_end s k

  read-a8 : (t : Bool) (p : ℕ) (d : Bool) → in_superframe (λ f. and (is_some f.sffi) (not f.sffi_selector)) (then_some t (superframe_at s p d)) ≡ false
  unfolding superframe_at
  read-a8 true p d = sffi-said (is_one (bits s (p + 1) 0 1)) (bits s (p + 4) 0 4)
  read-a8 false p d = refl

  read-a9 : (t : Bool) (p : ℕ)
      → in_superframe (λ f. and (is_some f.beamhopping_time_plan_id) (not f.beam_hopping_time_plan_selector)) (then_some t (superframe_at s p (has_plan s p))) ≡ false
  unfolding superframe_at
  read-a9 true p = plan-said (has_plan s p) (bits s (p + 7) 0 32)
  read-a9 false p = refl

  pub read-consistent : inconsistency (record_in s) ≡ 0
  unfolding inconsistency record_at present_in
  read-consistent = clear_first 1 (list_a (record_in s)) (
    mode-named mode,
    (
      said8 k.stream (bits s 18 0 8),
      (
        said_bool (has_selector (mode_of mode)) top,
        (
          index-said (has_selector (mode_of mode)) top (bits s (stream_end k) 6 18),
          (
            said8 k.timeslice (bits s (scrambling_end k) 0 8),
            (
              counted k.bond (has_second s (timeslice_end k)),
              (said_superframe k.superframe (superframe_at s block (has_plan s block)), (read-a8 k.superframe block (has_plan s block), (read-a9 k.superframe block, tt))),
            ),
          ),
        ),
      ),
    ),
  )

-- ---- list B

reserved-said : (t : Bool) (b : Bool) (v : ℕ) → v < 2 → and (not (is_some (then_some t b))) (wide 1 (when t 0 v)) ≡ false
reserved-said true b v h = refl
reserved-said false b v h = not_wide 1 v h

index-there : (has b : Bool) (v : ℕ) → and (unwrap_or (then_some has b) false) (not (is_some (then_some (and has b) v))) ≡ false
index-there true true v = refl
index-there true false v = refl
index-there false b v = refl

index-narrow : (has b : Bool) (v : ℕ) → v < 2 ^ 18 → and (unwrap_or (then_some has b) false) (wide 18 (unwrap_or (then_some (and has b) v) 0)) ≡ false
index-narrow true true v h = not_wide 18 v h
index-narrow true false v h = refl
index-narrow false b v h = refl

only-narrow : (t u : Bool) (w v : ℕ) → v < 2 ^ w → and t (wide w (only u v)) ≡ false
only-narrow true true w v h = not_wide w v h
only-narrow true false w v h = lt-leb _ _ (pow_pos w)
only-narrow false u w v h = refl

sffi-there : (t : Bool) (v : ℕ) → and t (not (is_some (then_some t v))) ≡ false
sffi-there true v = refl
sffi-there false v = refl

plan-there : (t : Bool) (v : ℕ) → and t (not (is_some (then_some t v))) ≡ false
plan-there true v = refl
plan-there false v = refl

module _ (s : List ℕ) (y : Bytes s) where
  -- the tests of the superframe block
  block-clear : (t : Bool) (p : ℕ) → Clear (superframe_b (then_some t (superframe_at s p (has_plan s p))))
  unfolding superframe_at
  block-clear true p =
      let f = fit_cut s p T.superframe refl y in
      let g = fit_cut s (p + when (has_plan s p) 11 7) T.last_byte refl y in (
        not_wide 20 _ f.1.1.1.1.0,
        (
          not_wide 20 _ f.1.1.1.1.1.1.0,
          (
            not_wide 2 _ f.1.1.1.0,
            (
              sffi-there (is_one (bits s (p + 1) 0 1)) (bits s (p + 4) 0 4),
              (
                rw (nibble-back (is_one (bits s (p + 1) 0 1)) (bits s (p + 4) 0 4)) (not_wide 4 _ f.1.1.1.1.1.0),
                (plan-there (has_plan s p) (bits s (p + 7) 0 32), (not_wide 5 _ g.0, (not_wide 3 _ g.1.0, tt))),
              ),
            ),
          ),
        ),
      )
  block-clear false p = (refl, (refl, (refl, (refl, (refl, (refl, (refl, (refl, tt))))))))

  pub read-writable : unwritable (record_in s) ≡ 0
  unfolding unwritable record_at present_in
  read-writable =
      let f = fit_cut s 0 T.core refl y in
      let g = fit_cut s (stream_end (k s)) T.scrambling refl y in
      let h = fit_cut s (timeslice_end (k s)) T.bond_header refl y in
      let has = has_selector (mode_of (mode s)) in
      clear_first 1 (list_b (record_in s)) (
        rw (code-mode (mode s)) (not_wide 4 _ f.1.0),
        (
          not_wide 3 _ f.1.1.1.0,
          (
            not_wide 2 _ f.1.1.1.1.0,
            (
              not_wide 2 _ f.1.1.1.1.1.1.1.0,
              (
                not_wide 2 _ f.1.1.1.1.1.1.1.1.0,
                (
                  reserved-said has (top s) (bits s 6 0 1) f.1.1.1.1.1.1.1.1.1.0,
                  (
                    not_wide 2 _ f.1.1.1.1.1.1.1.1.1.1.0,
                    (
                      not_wide 5 _ f.1.1.1.1.1.1.1.1.1.1.1.0,
                      (
                        not_wide 24 _ f.1.1.1.1.1.1.1.1.1.1.1.1.0,
                        (
                          index-there has (top s) (bits s (stream_end (k s)) 6 18),
                          (
                            index-narrow has (top s) (bits s (stream_end (k s)) 6 18) g.1.0,
                            (
                              only-narrow (unwrap_or (then_some has (top s)) false) (k s).scrambling 6 (bits s (stream_end (k s)) 0 6) g.0,
                              (
                                count-written (k s).bond (has_second s (timeslice_end (k s))),
                                (only-narrow (k s).bond (k s).bond 7 (bits s (timeslice_end (k s)) 0 7) h.0, block-clear (k s).superframe (block s)),
                              ),
                            ),
                          ),
                        ),
                      ),
                    ),
                  ),
                ),
              ),
            ),
          ),
        ),
      )

  -- ---- the types

  held8 : (t : Bool) (v : ℕ) → v < 2 ^ 8 → unwrap_or (then_some t v) 0 < 2 ^ 8
  held8 true v h = h
  held8 false v h = omega arith

  held32 : (t : Bool) (v : ℕ) → v < 2 ^ 32 → unwrap_or (then_some t v) 0 < 2 ^ 32
  held32 true v h = h
  held32 false v h = omega arith

  held-only : (t : Bool) (v : ℕ) → v < 2 ^ 32 → only t v < 2 ^ 32
  held-only true v h = h
  held-only false v h = omega arith

  word : (p : ℕ) → bits s p 0 32 < 2 ^ 32
  word p = (fit_cut s p T.bond_id refl y).0

  held-block : (t : Bool) (p : ℕ) (d : Bool) → HeldSuperframe (then_some t (superframe_at s p d))
  unfolding superframe_at
  held-block true p d = record { sosf = (fit_cut s p T.superframe refl y).0; plan = held32 d _ (word (p + 7)) }
  held-block false p d = tt

  pub read_held : Held (record_in s)
  unfolding record_at present_in
  read_held = record {
    id = word 0;
    frequency = word 10;
    rate = word 14;
    stream = held8 (k s).stream (bits s 18 0 8) (fit_cut s 18 T.stream_id refl y).0;
    timeslice = held8 (k s).timeslice (bits s (scrambling_end (k s)) 0 8) (fit_cut s (scrambling_end (k s)) T.timeslice refl y).0;
    first = held-only (k s).bond _ (word (timeslice_end (k s) + 1));
    second = held-only (and (k s).bond (has_second s (timeslice_end (k s)))) _ (word (timeslice_end (k s) + 5));
    block = held-block (k s).superframe (block s) (has_plan s (block s));
  }

-- ---- the wire carries it

reserved-carried : (t b : Bool) (v : ℕ) → when (is_some (then_some t b)) 0 (when t 0 v) ≡ when t 0 v
reserved-carried true b v = refl
reserved-carried false b v = refl

index-carried : (has b : Bool) (v : ℕ) → only (unwrap_or (then_some has b) false) (only (and has b) v) ≡ only (and has b) v
index-carried true true v = refl
index-carried true false v = refl
index-carried false b v = refl

only-carried : (t : Bool) (v : ℕ) → only t (only t v) ≡ only t v
only-carried true v = refl
only-carried false v = refl

ids-carried : (t d : Bool) (a b : ℕ) → carried_id 0 (count_if t d) (only t a ∷ only (and t d) b ∷ []) ∷ carried_id 1 (count_if t d) (only t a ∷ only (and t d) b ∷ []) ∷ []
    ≡ only t a ∷ only (and t d) b ∷ []
ids-carried true true a b = refl
ids-carried true false a b = refl
ids-carried false d a b = refl

nibble-carried : (t : Bool) (v : ℕ) → when t 0 (when t 0 v) ≡ when t 0 v
nibble-carried true v = refl
nibble-carried false v = refl

block-carried : (s : List ℕ) (t : Bool) (p : ℕ) (d : Bool) → carried_superframe (then_some t (superframe_at s p d)) ≡ then_some t (superframe_at s p d)
unfolding superframe_at
block-carried s true p d = simp nibble-carried
block-carried s false p d = refl

-- The wire carries all of a record that was read.
pub read-carried : (s : List ℕ) → carried (record_in s) ≡ record_in s
unfolding carried record_at present_in
read-carried s =
    simp (
      reserved-carried (has_selector (mode_of (mode s))) (top s) (bits s 6 0 1),
      index-carried (has_selector (mode_of (mode s))) (top s) (bits s (stream_end (k s)) 0 6),
      only-carried (k s).bond (bits s (timeslice_end (k s)) 0 7),
      ids-carried (k s).bond (has_second s (timeslice_end (k s))) (bits s (timeslice_end (k s) + 1) 0 32) (bits s (timeslice_end (k s) + 5) 0 32),
      block-carried s (k s).superframe (block s) (has_plan s (block s)),
    )
