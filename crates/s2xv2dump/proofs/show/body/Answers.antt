-- `s2xv2dump::show::body` is safe: the text stands within its buffer.
-- Assumes nothing.
use Rattle.std.proofs.Common.{arith, sym}
use Rattle.std.proofs.lemmas.List.{length-take-le}
use Rattle.s2xv2dump.proofs.Text.{text-within}
use Rattle.s2xv2dump.proofs.show.body.Goals as goal

pub slice_bounds-out-end : goal.slice_bounds-out-end
slice_bounds-out-end c = omega (arith, text-within _ _ _ c.in-Ok.ensures.answer, c.dump.auto.out)

pub slice_bounds-write_all-end : goal.slice_bounds-write_all-end
slice_bounds-write_all-end c =
    sym (length-take-le _ _ (omega (arith, text-within _ _ _ c.in-Ok.ensures.answer, c.dump.auto.out)))
