-- `s2xv2_lists::list_b::unwritable` meets its contract: the first place of two lists, one after the other, is that of the first list that has one.
-- Assumes nothing.
use Rattle.std.proofs.Common.{◌++◌, ap, sym, ◌∙◌}
use Rattle.std.specs.Option.{option_or}
use Rattle.answers.specs.Tests.{first_from, place_in}
use Rattle.s2xv2.specs.ListB.{core_b, scrambling_b, bond_b, superframe_b, unwritable}
use Rattle.answers.proofs.Tests.{place-append}
use Rattle.s2xv2_lists.proofs.list_b.unwritable.Goals as goal

pub returns-in-Some : goal.returns-in-Some
unfolding unwritable
returns-in-Some c =
    let r = c.args.r in
    sym (place-append 0 (core_b r ++ (scrambling_b r ++ bond_b r)) (superframe_b r.superframe)
    ∙ ap (λ o. option_or o (place_in (first_from 15 (superframe_b r.superframe)))) (sym c.parts_place.ensures ∙ c.in-Some.is))

pub returns-in-None : goal.returns-in-None
unfolding unwritable
returns-in-None c =
    let r = c.args.r in
    c.superframe_place.ensures
    ∙ sym (place-append 0 (core_b r ++ (scrambling_b r ++ bond_b r)) (superframe_b r.superframe)
    ∙ ap (λ o. option_or o (place_in (first_from 15 (superframe_b r.superframe)))) (sym c.parts_place.ensures ∙ c.in-None.is))
