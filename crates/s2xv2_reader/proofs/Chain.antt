-- The parts behind the core, one after the other. None of them but the superframe block, which is the last, stores below byte 22 (`keeps`, `keeps-two`), so
-- what is known at the core (`at-core`) is known `Behind` each part whose end is reached (`ends_at`, `passes`).
-- What all parts store is what is asked of them: the numbers (`chain-numbers`) and the bytes (`chain-bytes`).
-- Assumes nothing.
use Rattle.std.specs.Prelude.{◌≡◌, ℕ, ◌+◌, ◌<◌, ◌≤◌, List, length, get_or, set, Some}
use mathlib.Core.Path.{refl, ap, ◌∙◌}
use native.Mathlib.Omega.{arith}
use lib.ListN.{length-set}
use lib.Seq.{get_or-set_other}
use Rattle.wire.specs.Flags.{is_one, only}
use Rattle.s2xv2.specs.Read.{stream_end, scrambling_end, timeslice_end, bond_end, stream_id_at, reserved6_at, index_at, timeslice_at}
use Rattle.s2xv2_reader.specs.Stored.{reach, bond_numbers, bond_bytes, block_numbers, block_bytes, block_at, named, rest_numbers, rest_bytes}
use Rattle.s2xv2_reader.proofs.Ends.{reached}
use Rattle.std.specs.Option.{unwrap_or}

-- ---- what stays

-- the bytes after a part and before it are as many, and those that say what is there are the same
pub record Keeps (bs after : List ℕ) : Type 0 where
  pub many : length after ≡ length bs
  pub same : (j : ℕ) → j < 22 → get_or after j 0 ≡ get_or bs j 0

pub keeps : (bs after : List ℕ) (i v : ℕ) → after ≡ set bs i v → 22 ≤ i → Keeps bs after
keeps bs after i v d g = record {
  many = ap length d ∙ length-set bs i v;
  same = λ j h. ap (λ (l : List ℕ). get_or l j 0) d ∙ get_or-set_other bs i j v 0 (λ e. omega (arith, e, h, g));
}

pub keeps-two : (bs after : List ℕ) (i v j u : ℕ) → after ≡ set (set bs i v) j u → 22 ≤ i → 22 ≤ j → Keeps bs after
keeps-two bs after i v j u d g h =
    let one = keeps bs (set bs i v) i v refl g in
    let two = keeps (set bs i v) after j u d h in
    record { many = two.many ∙ one.many; same = λ k l. two.same k l ∙ one.same k l }

-- ---- from part to part

-- p is where the next part starts, and the bytes that say what is there are those of the core
pub record Behind (s core bs : List ℕ) (p end : ℕ) : Type 0 where
  pub at : p ≡ end
  pub low : 18 ≤ p
  pub within : p ≤ length s
  pub full : length bs ≡ 36
  pub kept : (j : ℕ) → j < 22 → get_or bs j 0 ≡ get_or core j 0

pub at-core : (s core : List ℕ) → 18 ≤ length s → length core ≡ 36 → Behind s core core 18 18
at-core s core h g = record { at = refl; low = omega arith; within = h; full = g; kept = λ j _. refl }

-- a part that byte j says is there, of a size that may depend on where it starts
module _ {s core bs : List ℕ} {p end : ℕ} (x : Behind s core bs p end) (j : ℕ) (h : j < 22) (size : ℕ → ℕ) where
  pub ends_at : p + only (is_one (get_or bs j 0)) (size p) ≡ end + only (is_one (get_or core j 0)) (size end)
  ends_at = ap (λ (v : ℕ). p + only (is_one v) (size p)) (x.kept j h) ∙ ap (λ (y : ℕ). y + only (is_one (get_or core j 0)) (size y)) x.at

  pub passes : (q : ℕ) (after : List ℕ) → Some q ≡ reach (length s) (p + only (is_one (get_or bs j 0)) (size p)) → Keeps bs after
      → Behind s core after q (end + only (is_one (get_or core j 0)) (size end))
  passes q after d k =
      let r = reached (length s) (p + only (is_one (get_or bs j 0)) (size p)) q d in
      record {
        at = r.0 ∙ ends_at;
        low = omega (arith, r.0, x.low);
        within = omega (arith, r.0, r.1);
        full = k.many ∙ x.full;
        kept = λ i l. k.same i l ∙ x.kept i l;
      }

-- ---- what is stored

module _ {s core b1 b2 b3 b4 : List ℕ} {p1 p2 p3 p4 : ℕ}
    (x1 : Behind s core b1 p1 (stream_end (named core)))
    (x2 : Behind s core b2 p2 (scrambling_end (named core)))
    (x3 : Behind s core b3 p3 (timeslice_end (named core)))
    (x4 : Behind s core b4 p4 (bond_end s (named core))) where
  pub chain-numbers : (w0 w1 w2 w3 : List ℕ)
      → w1 ≡ set w0 4 (unwrap_or (index_at s p1 (is_one (get_or b1 5 0))) 0)
      → w2 ≡ bond_numbers w1 s p3 (is_one (get_or b3 15 0))
      → w3 ≡ block_numbers w2 (block_at s p4 (is_one (get_or b4 11 0)))
      → w3 ≡ rest_numbers w0 s (named core)
  chain-numbers w0 w1 w2 w3 d1 d2 d3 =
      rw (d3, x4.kept 11 (omega arith), x4.at, d2, x3.kept 15 (omega arith), x3.at, d1, x1.kept 5 (omega arith), x1.at)

  pub chain-bytes : (b5 : List ℕ)
      → b1 ≡ set core 24 (unwrap_or (stream_id_at s 18 (is_one (get_or core 4 0))) 0)
      → b2 ≡ set b1 26 (reserved6_at s p1 (is_one (get_or b1 5 0)))
      → b3 ≡ set b2 25 (unwrap_or (timeslice_at s p2 (is_one (get_or b2 10 0))) 0)
      → b4 ≡ bond_bytes b3 s p3 (is_one (get_or b3 15 0))
      → b5 ≡ block_bytes b4 (block_at s p4 (is_one (get_or b4 11 0)))
      → b5 ≡ rest_bytes core s (named core)
  chain-bytes b5 d1 d2 d3 d4 d5 =
      rw (d5, x4.kept 11 (omega arith), x4.at, d4, x3.kept 15 (omega arith), x3.at, d3, x2.kept 10 (omega arith), x2.at)
      (rw (d2, x1.kept 5 (omega arith), x1.at, d1))
