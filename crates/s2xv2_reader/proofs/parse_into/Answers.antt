-- `s2xv2_reader::parse_into` meets its contract: an end is what is told.
-- Assumes nothing.
use mathlib.Core.Path.{ap, ◌∙◌}
use Rattle.answers.specs.Plain.{answer_out}
use Rattle.s2xv2_reader.proofs.Shown.{tells-end}
use Rattle.s2xv2_reader.proofs.parse_into.Goals as goal

pub returns-in-Some-clause-answer : goal.returns-in-Some-clause-answer
returns-in-Some-clause-answer c = c.answer_out.ensures ∙ ap answer_out (tells-end c.args.sel.now _ c.in-Some.ensures.end)
