-- An answer as plain numbers. Assumes nothing.
-- `answer_out`  of an answer's numbers
use Rattle.std.specs.Prelude.{ℕ, List, get_or}
use Rattle.answers.specs.Answer.{saturated}
use Rattle.answers.specs.declared.plain.PlainAnswer.{PlainAnswer}

-- the number of an answer, and the first four numbers that it tells, 0 where it tells fewer; 65,535 stands for all above that
abbrev pub answer_out : List ℕ → PlainAnswer
answer_out told = record {
  number = saturated (get_or told 0 0);
  first = saturated (get_or told 1 0);
  second = saturated (get_or told 2 0);
  third = saturated (get_or told 3 0);
  fourth = saturated (get_or told 4 0);
}
