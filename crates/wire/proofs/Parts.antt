-- Laws of parts: their length is the sum of the widths; where they stand in a body, their fields are cut; and what is cut stands there.
-- Assumes nothing.
use mathlib.Core.Path.{◌≡◌, refl, sym, ap, ap₂, ◌∙◌}
use mathlib.Core.List.{List, [], ◌∷◌, ◌++◌, append_assoc}
use Prim.Native.Nat.{ℕ, ◌+◌, ◌%◌, ◌≤◌}
use native.Mathlib.Nat.{add_assoc, zero-add, add-zero}
use native.Mathlib.Omega.{arith}
use lib.ListN.{length, drop, length-append, length-drop, take-append-drop}
use lib.Seq.{drop-drop, drop_at}
use Rattle.wire.specs.Widths.{total, size, cut, pack, Fit, Bytes}
use Rattle.wire.specs.Parts.{Part, bytes_of, sizes, AllFit}
use Rattle.wire.proofs.Cut.{length-pack, cut-pack, pack-cut, bytes-append, bytes-pack}

-- each part fills whole bytes
unfoldable pub Whole : List Part → Type 0
Whole [] = Unit
Whole (p ∷ ps) = (total p.widths % 8 ≡ 0) × Whole ps

pub whole_append : (ps qs : List Part) → Whole ps → Whole qs → Whole (ps ++ qs)
unfolding Whole
whole_append [] qs h k = k
whole_append (p ∷ ps) qs h k = (h.0, whole_append ps qs h.1 k)

pub bytes_of-append : (ps qs : List Part) (l : List ℕ) → bytes_of (ps ++ qs) l ≡ bytes_of ps (bytes_of qs l)
bytes_of-append [] qs l = refl
bytes_of-append (p ∷ ps) qs l = ap (λ (k : List ℕ). pack p.widths p.values ++ k) (bytes_of-append ps qs l)

-- the tail stands behind the parts
pub bytes_of-tail : (ps : List Part) (l : List ℕ) → bytes_of ps l ≡ bytes_of ps [] ++ l
bytes_of-tail [] l = refl
bytes_of-tail (p ∷ ps) l = ap (λ (k : List ℕ). pack p.widths p.values ++ k) (bytes_of-tail ps l) ∙ sym (append_assoc (pack p.widths p.values) (bytes_of ps []) l)

pub sizes-append : (ps qs : List Part) → sizes (ps ++ qs) ≡ sizes ps + sizes qs
sizes-append [] qs = sym (zero-add (sizes qs))
sizes-append (p ∷ ps) qs = ap (λ (k : ℕ). size p.widths + k) (sizes-append ps qs) ∙ sym (add_assoc (size p.widths) (sizes ps) (sizes qs))

pub fit_append : (ps qs : List Part) → AllFit ps → AllFit qs → AllFit (ps ++ qs)
fit_append [] qs f g = g
fit_append (p ∷ ps) qs f g = (f.0, fit_append ps qs f.1 g)

pub fit-left : (ps qs : List Part) → AllFit (ps ++ qs) → AllFit ps
fit-left [] qs f = tt
fit-left (p ∷ ps) qs f = (f.0, fit-left ps qs f.1)

pub fit-right : (ps qs : List Part) → AllFit (ps ++ qs) → AllFit qs
fit-right [] qs f = f
fit-right (p ∷ ps) qs f = fit-right ps qs f.1

-- THE LENGTH of what is written is the sum of the widths, and the tail's
pub length-bytes_of : (ps : List Part) (tail : List ℕ) → Whole ps → length (bytes_of ps tail) ≡ sizes ps + length tail
unfolding Whole
length-bytes_of [] tail h = sym (zero-add (length tail))
length-bytes_of (p ∷ ps) tail h =
    length-append (pack p.widths p.values) (bytes_of ps tail)
    ∙ ap₂ ◌+◌ (length-pack p.widths p.values h.0) (length-bytes_of ps tail h.1)
    ∙ sym (add_assoc (size p.widths) (sizes ps) (length tail))

pub bytes-bytes_of : (ps : List Part) (tail : List ℕ) → Whole ps → AllFit ps → Bytes tail → Bytes (bytes_of ps tail)
unfolding Whole
bytes-bytes_of [] tail h f b = b
bytes-bytes_of (p ∷ ps) tail h f b =
    bytes-append (pack p.widths p.values) (bytes_of ps tail) (bytes-pack p.widths p.values h.0 f.0) (bytes-bytes_of ps tail h.1 f.1 b)

-- ---- l stands at p of s, and nothing after it
pub record Stands (s : List ℕ) (p : ℕ) (l : List ℕ) : Type 0 where
  pub there : drop p s ≡ l
  pub within : p ≤ length s

pub stands-length : {s : List ℕ} {p : ℕ} {l : List ℕ} → Stands s p l → length s ≡ p + length l
stands-length {s} {p} {l} h = omega (arith, length-drop p s, ap length h.there, h.within)

-- what stands behind a part, and behind parts
behind : {s : List ℕ} {p : ℕ} {l : List ℕ} (ws vs : List ℕ) → total ws % 8 ≡ 0 → Stands s p (pack ws vs ++ l) → Stands s (p + size ws) l
behind {s} {p} {l} ws vs e h =
    let n : length (pack ws vs) ≡ size ws = length-pack ws vs e in
    record {
      there = sym (drop-drop (size ws) p s) ∙ ap (drop (size ws)) h.there ∙ drop_at (pack ws vs) l (size ws) n;
      within = omega (arith, stands-length h, length-append (pack ws vs) l, n);
    }

pub after : {s : List ℕ} {p : ℕ} {l : List ℕ} (ps : List Part) → Whole ps → Stands s p (bytes_of ps l) → Stands s (p + sizes ps) l
unfolding Whole
after {s} {p} {l} [] w h = rw (add-zero p) h
after {s} {p} {l} (x ∷ ps) w h = rw (← add_assoc p (size x.widths) (sizes ps)) (after {p = p + size x.widths} ps w.1 (behind x.widths x.values w.0 h))

-- where a part stands at p and then l: what is cut, that there is room, and that l stands behind it
pub record Found (s : List ℕ) (p : ℕ) (ws vs l : List ℕ) : Type 0 where
  pub fields : cut s p ws ≡ vs
  pub room : p + size ws ≤ length s
  pub rest : Stands s (p + size ws) l

pub find : {s : List ℕ} {p : ℕ} {l : List ℕ} (ws vs : List ℕ) → total ws % 8 ≡ 0 → Fit ws vs → Bytes s → Stands s p (pack ws vs ++ l) → Found s p ws vs l
find {s} {p} {l} ws vs e f b h =
    let r = behind ws vs e h in
    record { fields = cut-pack s p ws vs l e f b h.there; room = r.within; rest = r }

-- what stands at p is what is cut there, packed, and then the rest
pub found : (s : List ℕ) (p : ℕ) (ws : List ℕ) → total ws % 8 ≡ 0 → Bytes s → p + size ws ≤ length s → drop p s ≡ pack ws (cut s p ws) ++ drop (p + size ws) s
found s p ws e b h =
    sym (take-append-drop (size ws) (drop p s))
    ∙ ap₂ ◌++◌ (sym (pack-cut s p ws e b h)) (drop-drop (size ws) p s)
