-- What `Rattle.s2xv2.specs.Read` says of a body, as the structs of this crate hold it. Assumes nothing.
-- `present_now`  the parts that its core asks for
-- `asked`        the parts that such a struct names
-- `ends_now`     where each of them ends
-- `needs_to`     the ends with their places
-- `least_to`     the least total by the ends
-- `short_to`     answer 1 by the ends
-- `reached`      that of a part whose end is not reached, and nothing else of one whose end is
use Rattle.std.specs.Prelude.{ℕ, List, [], ◌∷◌, ltb, Result, Ok, Err}
use Rattle.wire.specs.Flags.{when}
use Rattle.wire.specs.Widths.{size}
use Rattle.s2xv2.specs.Table144b as T
use Rattle.s2xv2.specs.Read as R
use Rattle.s2xv2.specs.Read.{present_in, stream_end, scrambling_end, timeslice_end, header_end, first_id_end, has_second, bond_end, block_end, has_plan, plan_end, superframe_end}
use Rattle.answers.specs.Short.{Need, ◌to◌}
use Rattle.answers.specs.declared.answer.Refusal.{Refusal}
use Rattle.answers.specs.declared.answer.Refusal.TheVariants as A
use Rattle.s2xv2_layout.specs.declared.present.Present.{Present}
use Rattle.s2xv2_layout.specs.declared.ends.Ends.{Ends}

abbrev pub present_now : List ℕ → Present
present_now s = record {
  stream = (present_in s).stream;
  scrambling = (present_in s).scrambling;
  timeslice = (present_in s).timeslice;
  bond = (present_in s).bond;
  superframe = (present_in s).superframe;
}

abbrev pub asked : Present → R.Present
asked k = record {
  stream = k.stream;
  scrambling = k.scrambling;
  timeslice = k.timeslice;
  bond = k.bond;
  superframe = k.superframe;
}

abbrev pub ends_now : List ℕ → Present → Ends
ends_now s k = record {
  stream = stream_end (asked k);
  scrambling = scrambling_end (asked k);
  timeslice = timeslice_end (asked k);
  header = header_end (asked k);
  first_id = first_id_end (asked k);
  second = has_second s (timeslice_end (asked k));
  bond = bond_end s (asked k);
  block = block_end s (asked k);
  plan = has_plan s (bond_end s (asked k));
  plan_id = plan_end s (asked k);
  superframe = superframe_end s (asked k);
}

-- in wire order
abbrev pub needs_to : Ends → List Need
needs_to e =
    1 to size T.core
    ∷ 2 to e.stream
    ∷ 3 to e.scrambling
    ∷ 4 to e.timeslice
    ∷ 5 to e.header
    ∷ 6 to e.first_id
    ∷ 6 to e.bond
    ∷ 7 to e.block
    ∷ 8 to e.plan_id
    ∷ 9 to e.superframe
    ∷ []

-- of a body of `have` bytes
abbrev pub least_to : ℕ → Ends → ℕ
least_to have e = when (ltb have (size T.core)) (size T.core) (when (ltb have e.block) e.block e.superframe)

abbrev pub short_to : ℕ → Ends → Need → Refusal
short_to have e n = A.Short n.place n.need have (least_to have e)

abbrev pub reached : ℕ → ℕ → ℕ → ℕ → Result (Unit {0}) Refusal
reached place need have least = when (ltb have need) (Err (A.Short place need have least)) (Ok tt)
