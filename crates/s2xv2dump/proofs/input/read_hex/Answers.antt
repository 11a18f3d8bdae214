-- `s2xv2dump::input::read_hex` meets its contract: no more bytes are stored than the buffer has.
-- Assumes nothing.
use Rattle.hexadecimal.proofs.Answers.{bytes-within}
use Rattle.s2xv2dump.proofs.input.read_hex.Goals as goal

pub returns : goal.returns
returns g c = bytes-within _ _ _ c.in_ok-decode.ensures.answer
