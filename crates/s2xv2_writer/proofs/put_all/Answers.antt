-- `s2xv2_writer::put_all` meets its contract: the parts are runs of stores that meet, so that they are one run of the encoding from the start.
-- After each part `Done` says which parts stand in the buffer, and that its place is behind them.
-- Assumes nothing.
use Rattle.std.proofs.Common.{◌≡◌, ℕ, ◌+◌, List, [], ◌∷◌, ◌++◌, length, drop, refl, sym, ap, ◌∙◌, arith}
use Rattle.wire.specs.Parts.{Part, ◌⦂◌}
use Rattle.wire.specs.Store.{stored_from}
use Rattle.wire.specs.Widths.{pack}
use Rattle.wire.proofs.Parts.{Whole, sizes-append}
use Rattle.wire.proofs.Stores.{stored-front}
use Rattle.s2xv2.specs.Table144b as T
use Rattle.s2xv2.specs.Encode.{core_values, stream_of, scrambling_of, timeslice_of, bond_of, superframe_of, encode, encoded_length}
use Rattle.s2xv2.specs.declared.record.S2Xv2SatelliteDeliverySystem.{S2Xv2SatelliteDeliverySystem}
use Rattle.s2xv2.proofs.Whole.{whole-byte, whole-scrambling, whole-bond, whole-superframe, encode-length, parts-split}
use Rattle.s2xv2_plain.specs.Input.{meant}
use Rattle.s2xv2_writer.proofs.Laws.{Stored, store, store_tail, clear-parts, scrambling-same, scrambling-narrow}
use Rattle.s2xv2_writer.proofs.put_all.Goals as goal

abbrev Done : S2Xv2SatelliteDeliverySystem → List ℕ → List ℕ → ℕ → List Part → Type 0
Done r b₀ b p ps = Stored b₀ b p ((T.core ⦂ core_values r ∷ []) ++ ps)

core : (r : S2Xv2SatelliteDeliverySystem) {b₀ b : List ℕ} → b ≡ stored_from b₀ 0 (pack T.core (core_values r)) → length b ≡ length b₀ → Done r b₀ b 18 []
unfolding Whole
core r e k = record { bytes = e; place = refl; whole = (refl, tt); kept = k }

pub put_core-requires : goal.put_core-requires
unfolding encoded_length
put_core-requires c =
    let ws = c.args.w.now in
    let bs = c.args.b.now in
    let r = meant ws bs in
    let room = c.requires.tail_in_bounds in
    let packed = c.requires.packed.0 in
    let clear = clear-parts r c.requires.packed.1 in
    record { in_bounds = (omega (arith, parts-split r, room), packed); clear = clear.0 }

pub put_byte-p1-requires : goal.put_byte-p1-requires
unfolding encoded_length
put_byte-p1-requires c =
    let ws = c.args.w.now in
    let bs = c.args.b.now in
    let r = meant ws bs in
    let room = c.requires.tail_in_bounds in
    let packed = c.requires.packed.0 in
    let clear = clear-parts r c.requires.packed.1 in
    let d1 = core r c.put_core.ensures c.put_core.auto.buf in
    omega (arith, parts-split r, room, d1.kept)

pub put_scrambling-p2-requires : goal.put_scrambling-p2-requires
unfolding encoded_length
put_scrambling-p2-requires c =
    let ws = c.args.w.now in
    let bs = c.args.b.now in
    let r = meant ws bs in
    let room = c.requires.tail_in_bounds in
    let packed = c.requires.packed.0 in
    let clear = clear-parts r c.requires.packed.1 in
    let d1 = core r c.put_core.ensures c.put_core.auto.buf in
    let e2 = c.put_byte-p1.ensures in
    let d2 = store _ (stream_of r) d1 (whole-byte _) e2.place e2.stored c.put_byte-p1.auto.buf in
    record {
      index_in_bounds = rw (scrambling-same ws bs packed clear.1) (omega (arith, parts-split r, room, d2.kept, d2.place));
      index_value = scrambling-narrow ws bs packed clear.1;
    }

pub put_byte-p3-requires : goal.put_byte-p3-requires
unfolding encoded_length
put_byte-p3-requires c =
    let ws = c.args.w.now in
    let bs = c.args.b.now in
    let r = meant ws bs in
    let room = c.requires.tail_in_bounds in
    let packed = c.requires.packed.0 in
    let clear = clear-parts r c.requires.packed.1 in
    let d1 = core r c.put_core.ensures c.put_core.auto.buf in
    let e2 = c.put_byte-p1.ensures in
    let d2 = store _ (stream_of r) d1 (whole-byte _) e2.place e2.stored c.put_byte-p1.auto.buf in
    let same = scrambling-same ws bs packed clear.1 in
    let e3 = c.put_scrambling-p2.ensures in
    let d3 = store _ (scrambling_of r) d2 (whole-scrambling _ _ _) (rw same at e3.place) (rw same at e3.stored) c.put_scrambling-p2.auto.buf in
    omega (arith, parts-split r, room, d3.kept, simp sizes-append at d3.place)

pub put_bonds-p4-requires : goal.put_bonds-p4-requires
unfolding encoded_length
put_bonds-p4-requires c =
    let ws = c.args.w.now in
    let bs = c.args.b.now in
    let r = meant ws bs in
    let room = c.requires.tail_in_bounds in
    let packed = c.requires.packed.0 in
    let clear = clear-parts r c.requires.packed.1 in
    let d1 = core r c.put_core.ensures c.put_core.auto.buf in
    let e2 = c.put_byte-p1.ensures in
    let d2 = store _ (stream_of r) d1 (whole-byte _) e2.place e2.stored c.put_byte-p1.auto.buf in
    let same = scrambling-same ws bs packed clear.1 in
    let e3 = c.put_scrambling-p2.ensures in
    let d3 = store _ (scrambling_of r) d2 (whole-scrambling _ _ _) (rw same at e3.place) (rw same at e3.stored) c.put_scrambling-p2.auto.buf in
    let e4 = c.put_byte-p3.ensures in
    let d4 = store _ (timeslice_of r) d3 (whole-byte _) e4.place e4.stored c.put_byte-p3.auto.buf in
    record {
      second_in_bounds = omega (arith, parts-split r, room, d4.kept, simp sizes-append at d4.place);
      count_value = (clear.2.0, clear.2.1.0);
    }

pub put_superframe-p5-requires : goal.put_superframe-p5-requires
unfolding encoded_length
put_superframe-p5-requires c =
    let ws = c.args.w.now in
    let bs = c.args.b.now in
    let r = meant ws bs in
    let room = c.requires.tail_in_bounds in
    let packed = c.requires.packed.0 in
    let clear = clear-parts r c.requires.packed.1 in
    let d1 = core r c.put_core.ensures c.put_core.auto.buf in
    let e2 = c.put_byte-p1.ensures in
    let d2 = store _ (stream_of r) d1 (whole-byte _) e2.place e2.stored c.put_byte-p1.auto.buf in
    let same = scrambling-same ws bs packed clear.1 in
    let e3 = c.put_scrambling-p2.ensures in
    let d3 = store _ (scrambling_of r) d2 (whole-scrambling _ _ _) (rw same at e3.place) (rw same at e3.stored) c.put_scrambling-p2.auto.buf in
    let e4 = c.put_byte-p3.ensures in
    let d4 = store _ (timeslice_of r) d3 (whole-byte _) e4.place e4.stored c.put_byte-p3.auto.buf in
    let e5 = c.put_bonds-p4.ensures in
    let d5 = store _ (bond_of r) d4 (whole-bond _ _ _ _) e5.place e5.stored c.put_bonds-p4.auto.buf in
    record {
      b_in_bounds = omega (arith, parts-split r, room, d5.kept, simp sizes-append at d5.place);
      packed = (packed, clear.3);
    }

pub put_tail-requires : goal.put_tail-requires
unfolding encoded_length
put_tail-requires c =
    let ws = c.args.w.now in
    let bs = c.args.b.now in
    let r = meant ws bs in
    let room = c.requires.tail_in_bounds in
    let packed = c.requires.packed.0 in
    let clear = clear-parts r c.requires.packed.1 in
    let d1 = core r c.put_core.ensures c.put_core.auto.buf in
    let e2 = c.put_byte-p1.ensures in
    let d2 = store _ (stream_of r) d1 (whole-byte _) e2.place e2.stored c.put_byte-p1.auto.buf in
    let same = scrambling-same ws bs packed clear.1 in
    let e3 = c.put_scrambling-p2.ensures in
    let d3 = store _ (scrambling_of r) d2 (whole-scrambling _ _ _) (rw same at e3.place) (rw same at e3.stored) c.put_scrambling-p2.auto.buf in
    let e4 = c.put_byte-p3.ensures in
    let d4 = store _ (timeslice_of r) d3 (whole-byte _) e4.place e4.stored c.put_byte-p3.auto.buf in
    let e5 = c.put_bonds-p4.ensures in
    let d5 = store _ (bond_of r) d4 (whole-bond _ _ _ _) e5.place e5.stored c.put_bonds-p4.auto.buf in
    let e6 = c.put_superframe-p5.ensures in
    let d6 = store _ (superframe_of r) d5 (whole-superframe _) e6.place e6.stored c.put_superframe-p5.auto.buf in
    let end : c.put_superframe-p5.result + length c.args.tail.now ≡ encoded_length r c.args.tail.now = omega (arith, parts-split r, simp sizes-append at d6.place) in
    omega (arith, end, room, d6.kept)

pub overflow_add-result : goal.overflow_add-result
unfolding encoded_length
overflow_add-result c =
    let ws = c.args.w.now in
    let bs = c.args.b.now in
    let r = meant ws bs in
    let room = c.requires.tail_in_bounds in
    let packed = c.requires.packed.0 in
    let clear = clear-parts r c.requires.packed.1 in
    let d1 = core r c.put_core.ensures c.put_core.auto.buf in
    let e2 = c.put_byte-p1.ensures in
    let d2 = store _ (stream_of r) d1 (whole-byte _) e2.place e2.stored c.put_byte-p1.auto.buf in
    let same = scrambling-same ws bs packed clear.1 in
    let e3 = c.put_scrambling-p2.ensures in
    let d3 = store _ (scrambling_of r) d2 (whole-scrambling _ _ _) (rw same at e3.place) (rw same at e3.stored) c.put_scrambling-p2.auto.buf in
    let e4 = c.put_byte-p3.ensures in
    let d4 = store _ (timeslice_of r) d3 (whole-byte _) e4.place e4.stored c.put_byte-p3.auto.buf in
    let e5 = c.put_bonds-p4.ensures in
    let d5 = store _ (bond_of r) d4 (whole-bond _ _ _ _) e5.place e5.stored c.put_bonds-p4.auto.buf in
    let e6 = c.put_superframe-p5.ensures in
    let d6 = store _ (superframe_of r) d5 (whole-superframe _) e6.place e6.stored c.put_superframe-p5.auto.buf in
    let end : c.put_superframe-p5.result + length c.args.tail.now ≡ encoded_length r c.args.tail.now = omega (arith, parts-split r, simp sizes-append at d6.place) in
    omega (arith, end, room, c.well_formed)

pub returns : goal.returns
unfolding encoded_length
returns c =
    let ws = c.args.w.now in
    let bs = c.args.b.now in
    let r = meant ws bs in
    let room = c.requires.tail_in_bounds in
    let packed = c.requires.packed.0 in
    let clear = clear-parts r c.requires.packed.1 in
    let d1 = core r c.put_core.ensures c.put_core.auto.buf in
    let e2 = c.put_byte-p1.ensures in
    let d2 = store _ (stream_of r) d1 (whole-byte _) e2.place e2.stored c.put_byte-p1.auto.buf in
    let same = scrambling-same ws bs packed clear.1 in
    let e3 = c.put_scrambling-p2.ensures in
    let d3 = store _ (scrambling_of r) d2 (whole-scrambling _ _ _) (rw same at e3.place) (rw same at e3.stored) c.put_scrambling-p2.auto.buf in
    let e4 = c.put_byte-p3.ensures in
    let d4 = store _ (timeslice_of r) d3 (whole-byte _) e4.place e4.stored c.put_byte-p3.auto.buf in
    let e5 = c.put_bonds-p4.ensures in
    let d5 = store _ (bond_of r) d4 (whole-bond _ _ _ _) e5.place e5.stored c.put_bonds-p4.auto.buf in
    let e6 = c.put_superframe-p5.ensures in
    let d6 = store _ (superframe_of r) d5 (whole-superframe _) e6.place e6.stored c.put_superframe-p5.auto.buf in
    let end : c.put_superframe-p5.result + length c.args.tail.now ≡ encoded_length r c.args.tail.now = omega (arith, parts-split r, simp sizes-append at d6.place) in
    let b = c.args.buf.now in
    let t = c.args.tail.now in
    let l = encode-length r t in
    let e = store_tail r t d6 c.put_tail.ensures ∙ stored-front b (encode r t) (omega (arith, l, room)) in
    record { place = end; stored = e ∙ ap (λ (n : ℕ). encode r t ++ drop n b) (l ∙ sym end) }
