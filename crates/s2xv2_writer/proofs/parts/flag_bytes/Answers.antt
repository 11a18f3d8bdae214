-- `s2xv2_writer::parts::flag_bytes` meets its contract: the values are within their widths, and each byte is packed as the table has it.
-- Assumes nothing.
use lib.ListN.{get_or}
use Rattle.wire.proofs.Wide.{narrow}
use Rattle.s2xv2.specs.Table144c.{code_of}
use Rattle.s2xv2_plain.specs.Input.{is_set, mode_in}
use Rattle.s2xv2_writer.proofs.Flags.{bit-set, code_in, top-is, top_small}
use Rattle.s2xv2_writer.proofs.parts.flag_bytes.Goals as goal

pub byte_4-b4-requires : goal.byte_4-b4-requires
byte_4-b4-requires c =
    let bs = c.args.b.now in
    let b = c.requires.1 in
    let code = rw (code_in (get_or bs 8 0) (get_or bs 20 0)) at (narrow 4 (code_of (mode_in (get_or bs 8 0) (get_or bs 20 0))) b.0) in
    (code, c.requires.0.stream, narrow 3 _ b.1.0)

pub byte_6-b6-requires : goal.byte_6-b6-requires
byte_6-b6-requires c =
    let bs = c.args.b.now in
    let b = c.requires.1.1.1.1.1.1 in
    let top = top_small (is_set (get_or bs 9 0)) (get_or bs 1 0) (get_or bs 18 0) c.requires.0.selector b.0 in
    (rw c.chosen-top.ensures top, narrow 2 _ b.1.0, narrow 5 _ b.1.1.0)

pub returns : goal.returns
returns c =
    let bs = c.args.b.now in
    let g = c.requires.0 in
    simp (
      c.byte_6-b6.ensures,
      c.chosen-top.ensures,
      c.byte_5-b5.ensures,
      c.byte_4-b4.ensures,
      code_in (get_or bs 8 0) (get_or bs 20 0),
      bit-set (get_or bs 0 0) g.stream,
      bit-set (get_or bs 13 0) g.reference,
      bit-set (get_or bs 14 0) g.version,
      top-is (is_set (get_or bs 9 0)) (get_or bs 1 0) (get_or bs 18 0) g.selector,
    )
