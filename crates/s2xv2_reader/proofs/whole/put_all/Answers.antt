-- `s2xv2_reader::whole::put_all` meets its contract: what the core and the parts behind it store fills both arrays.
-- Assumes nothing.
use Rattle.std.proofs.Common.{◌≡◌, length, arith}
use Rattle.std.proofs.lemmas.Option.{IfSome_then}
use Rattle.s2xv2_reader.proofs.Filled.{whole-end, whole_numbers, whole-bytes}
use Rattle.s2xv2_reader.proofs.whole.put_all.Goals as goal

pub returns : goal.returns
returns c =
    let s = c.args.s.now in
    let bs = c.args.b.now in
    let h : length bs ≡ 36 = omega arith in
    let d1 = c.put_fields.ensures in
    let d2 = c.put_asked.ensures in
    let r = c.put_rest.ensures in
    record {
      end = whole-end s bs _ _ h d1 d2 _ r.end;
      numbers = IfSome_then c.put_rest.result r.numbers (λ _. whole_numbers s bs _ _ h d1 d2 c.args.w.now _ _ (omega arith) c.put_numbers.ensures);
      bytes = IfSome_then c.put_rest.result r.bytes (λ _. whole-bytes s bs _ _ h d1 d2 _);
    }
