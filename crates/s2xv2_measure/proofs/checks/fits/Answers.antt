-- `s2xv2_measure::checks::fits` meets its contract: what all five tests pass is what no test of the two lists refuses.
-- Assumes nothing.
use mathlib.Core.Path.{sym, ◌∙◌}
use Rattle.wire.proofs.Flags.{never}
use Rattle.s2xv2_measure.proofs.Checked.{consistent, carried, counted, set_there, few-bonds}
use Rattle.s2xv2_measure.proofs.checks.fits.Goals as goal
use Rattle.s2xv2_measure.proofs.checks.fits.Goals.{then-scrambling_fits, else-scrambling_fits, then-core_fits, else-core_fits, then-agrees, else-agrees}

pub superframe_fits-requires : goal.superframe_fits-requires
superframe_fits-requires c =
    elim c.if-scrambling_fits.branch [
      | then-scrambling_fits w4 ↦ elim c.if-core_fits.branch [
        | then-core_fits w3 ↦ elim c.if-agrees.branch [
          | then-agrees w2 ↦
              c.agrees.ensures w2.if-agrees.true
          | else-agrees w2 ↦ never (sym (w2.value-is ∙ w2.if-agrees.false) ∙ w3.if-core_fits.true)
        ]
        | else-core_fits w3 ↦ never (sym (w3.value-is ∙ w3.if-core_fits.false) ∙ w4.if-scrambling_fits.true)
      ]
      | else-scrambling_fits w4 ↦ never (sym (w4.value-is ∙ w4.if-scrambling_fits.false) ∙ c.if-bonds_fit.true)
    ]

pub returns-then-bonds_fit : goal.returns-then-bonds_fit
returns-then-bonds_fit c =
    elim c.if-scrambling_fits.branch [
      | then-scrambling_fits w4 ↦ elim c.if-core_fits.branch [
        | then-core_fits w3 ↦ elim c.if-agrees.branch [
          | then-agrees w2 ↦
              let w = c.args.w.now in
              let b = c.args.b.now in
              let a = c.agrees.ensures w2.if-agrees.true in
              let core = sym w2.value-is ∙ w3.if-core_fits.true in
              let scrambling = w3.scrambling_fits.ensures (sym w3.value-is ∙ w4.if-scrambling_fits.true) in
              let bonds = w4.bonds_fit.ensures in
              let fit = sym w4.value-is ∙ c.if-bonds_fit.true in
              let bits = w2.core_fits.ensures.bits core in
              record {
                lists = λ e. (consistent w b a scrambling.0 (bonds.agree fit), carried w b a (w2.core_fits.ensures.list core) scrambling (bonds.fit fit) (c.superframe_fits.ensures e));
                bits = λ e. record {
                  counted = counted w b a;
                  packed = record {
                    stream = a.bits.0;
                    selector = a.bits.1;
                    sffi = a.bits.2;
                    plan = a.bits.3;
                    reference = bits.0;
                    version = bits.1;
                    asked = set_there _ _ a.bits.1 scrambling.0;
                  };
                  few = few-bonds _ _ (bonds.fit fit).0;
                };
              }
          | else-agrees w2 ↦ never (sym (w2.value-is ∙ w2.if-agrees.false) ∙ w3.if-core_fits.true)
        ]
        | else-core_fits w3 ↦ never (sym (w3.value-is ∙ w3.if-core_fits.false) ∙ w4.if-scrambling_fits.true)
      ]
      | else-scrambling_fits w4 ↦ never (sym (w4.value-is ∙ w4.if-scrambling_fits.false) ∙ c.if-bonds_fit.true)
    ]

pub returns-else-bonds_fit : goal.returns-else-bonds_fit
returns-else-bonds_fit c = record {
  lists = (λ e. never (sym c.if-bonds_fit.false ∙ e));
  bits = (λ e. never (sym c.if-bonds_fit.false ∙ e));
}
