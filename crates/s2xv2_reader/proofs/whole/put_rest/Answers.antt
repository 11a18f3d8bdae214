-- `s2xv2_reader::whole::put_rest` meets its contract: behind each part whose end is reached the bytes of the core still say which part comes next.
-- Assumes nothing.
use Rattle.std.proofs.Common.{◌≡◌, ℕ, ◌+◌, List, length, get_or, set, ap, ◌∙◌, arith, Some}
use Rattle.std.proofs.lemmas.Option.{IfSome_then}
use Rattle.wire.specs.Flags.{is_one, only}
use Rattle.s2xv2.specs.Read.{stream_end, scrambling_end, timeslice_end, bond_end, has_second, bond_size, has_plan, superframe_size}
use Rattle.s2xv2_reader.specs.Stored.{reach, named}
use Rattle.s2xv2_reader.proofs.Chain.{Behind, keeps, keeps-two, at-core, passes, ends_at, chain-numbers, chain-bytes}
use Rattle.s2xv2_reader.proofs.whole.put_rest.Goals as goal

-- ---- behind each part

behind-stream : {s core b1 : List ℕ} {p1 : ℕ} (v : ℕ) → Behind s core core 18 18
    → Some p1 ≡ reach (length s) (18 + only (is_one (get_or core 4 0)) 1) → b1 ≡ set core 24 v → Behind s core b1 p1 (stream_end (named core))
behind-stream v x d e = passes x 4 (omega arith) (λ _. 1) _ _ d (keeps _ _ 24 _ e (omega arith))

behind-scrambling : {s core b1 b2 : List ℕ} {p1 p2 : ℕ} (v : ℕ) → Behind s core b1 p1 (stream_end (named core))
    → Some p2 ≡ reach (length s) (p1 + only (is_one (get_or b1 5 0)) 3) → b2 ≡ set b1 26 v → Behind s core b2 p2 (scrambling_end (named core))
behind-scrambling v x d e = passes x 5 (omega arith) (λ _. 3) _ _ d (keeps _ _ 26 _ e (omega arith))

behind-timeslice : {s core b2 b3 : List ℕ} {p2 p3 : ℕ} (v : ℕ) → Behind s core b2 p2 (scrambling_end (named core))
    → Some p3 ≡ reach (length s) (p2 + only (is_one (get_or b2 10 0)) 1) → b3 ≡ set b2 25 v → Behind s core b3 p3 (timeslice_end (named core))
behind-timeslice v x d e = passes x 10 (omega arith) (λ _. 1) _ _ d (keeps _ _ 25 _ e (omega arith))

behind-bonds : {s core b3 b4 : List ℕ} {p3 p4 : ℕ} (v u : ℕ) → Behind s core b3 p3 (timeslice_end (named core))
    → Some p4 ≡ reach (length s) (p3 + only (is_one (get_or b3 15 0)) (bond_size (has_second s p3))) → b4 ≡ set (set b3 23 v) 22 u
    → Behind s core b4 p4 (bond_end s (named core))
behind-bonds {s} v u x d e =
    let k = keeps-two _ _ 23 _ 22 _ e (omega arith) (omega arith) in passes x 15 (omega arith) (λ p. bond_size (has_second s p)) _ _ d k

-- ---- all parts

pub returns : goal.returns
returns c =
    let s = c.args.s.now in
    let e1 = c.in_ok-stream.ensures in
    let e2 = c.in_ok-scrambling.ensures in
    let e3 = c.in_ok-timeslice.ensures in
    let e4 = c.in_ok-bond.ensures in
    let x0 = at-core s c.args.b.now c.requires (omega arith) in
    let x1 = behind-stream _ x0 e1.end e1.bytes in
    let x2 = behind-scrambling _ x1 e2.end e2.bytes in
    let x3 = behind-timeslice _ x2 e3.end e3.bytes in
    let x4 = behind-bonds _ _ x3 e4.end e4.bytes in
    let e5 = c.put_superframe.ensures in
    record {
      end = e5.end ∙ ap (reach (length s)) (ends_at x4 11 (omega arith) (λ p. superframe_size (has_plan s p)));
      numbers = IfSome_then c.put_superframe.result e5.numbers (λ _. chain-numbers x1 x2 x3 x4 c.args.w.now _ _ _ e2.numbers e4.numbers);
      bytes = IfSome_then c.put_superframe.result e5.bytes (λ _. chain-bytes x1 x2 x3 x4 _ e1.bytes e2.bytes e3.bytes e4.bytes);
    }
