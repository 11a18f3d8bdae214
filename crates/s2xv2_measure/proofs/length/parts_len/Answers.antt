-- `s2xv2_measure::length::parts_len` meets its contract: the size of the parts is the sum of these.
-- Assumes nothing.
use native.Mathlib.Omega.{arith}
use Rattle.s2xv2.proofs.Whole.{parts-size}
use Rattle.s2xv2_plain.specs.Input.{meant}
use Rattle.s2xv2_plain.proofs.Back.{is-there}
use Rattle.s2xv2_measure.proofs.Sizes.{block_size}
use Rattle.s2xv2_measure.proofs.length.parts_len.Goals as goal
use Rattle.answers.proofs.Options.{is-selected}

pub returns : goal.returns
returns c =
    let b = c.args.b.now in
    let k = c.requires.plan in record {
      size = (λ ws. omega (
        arith,
        c.superframe_len.ensures,
        block_size ws b k,
        c.bond_len.ensures,
        c.byte_len-2.ensures,
        c.scrambling_len.ensures,
        c.byte_len.ensures,
        simp (is-there, is-selected) at (parts-size (meant ws b)),
      ));
      small = omega arith;
    }
