-- `s2xv2_reader::superframe::put_superframe` meets its contract: the flag of the block is what asks for a plan id, and its last byte stands behind that.
-- Assumes nothing.
use Rattle.std.specs.Prelude.{◌≡◌, true, false}
use mathlib.Core.Path.{sym, ◌∙◌}
use Rattle.s2xv2.specs.Read.{has_plan}
use Rattle.s2xv2_reader.proofs.Block.{block-numbers, block-bytes}
use Rattle.s2xv2_reader.proofs.superframe.put_superframe.Goals as goal

pub returns-in_ok-long : goal.returns-in_ok-long
returns-in_ok-long c =
    let a = c.args in
    let s = a.s.now in
    let d : has_plan s a.p ≡ true = sym c.flag.ensures ∙ c.if-flag.true in
    let e = c.put_start.ensures in
    rw (c.if-there.true, d) (record {
      end = c.in_ok-long.ensures;
      numbers = simp (c.be32.ensures, e.numbers) (block-numbers a.w.now a.b.now s a.p true);
      bytes = simp (c.put_end.ensures, e.bytes) (block-bytes a.w.now a.b.now s a.p true d);
    })

pub returns-else-flag : goal.returns-else-flag
returns-else-flag c =
    let a = c.args in
    let s = a.s.now in
    let d : has_plan s a.p ≡ false = sym c.flag.ensures ∙ c.if-flag.false in
    let e = c.put_start.ensures in
    rw (c.if-there.true, d) (record {
      end = c.in_ok-short.ensures;
      numbers = simp e.numbers (block-numbers a.w.now a.b.now s a.p false);
      bytes = simp (c.put_end-else-flag.ensures, e.bytes) (block-bytes a.w.now a.b.now s a.p false d);
    })
