-- `s2xv2_measure::is_ready` meets its contract: what both lists pass, and there is room for, is written.
-- Assumes nothing.
use Rattle.s2xv2.specs.Encode.{encoded_length}
use Rattle.s2xv2_measure.proofs.Accepted.{ready}
use Rattle.s2xv2_measure.proofs.is_ready.Goals as goal

pub has_room-requires : goal.has_room-requires
has_room-requires c = c.fits.ensures.bits c.if-fits.true

pub returns-then-fits : goal.returns-then-fits
unfolding encoded_length
returns-then-fits c =
    let w = c.args.w.now in
    let fits = c.fits.ensures in
    let taken = c.if-fits.true in record {
      told = (λ e. ready _ c.args.reserved_tail.now 0 _ (fits.lists taken) (c.has_room.ensures.within e w, c.has_room.ensures.fits e w));
      bits = (λ e. (fits.bits taken).packed);
    }
