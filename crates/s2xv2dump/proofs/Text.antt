-- `text-within`: the text of a body stands within the buffer that it was put into. Assumes nothing.
use Rattle.std.proofs.Common.{◌≡◌, ℕ, ◌≤◌, Bool, true, false, List, length, nat_lt, Ok, refl, arith}
use Rattle.std.proofs.lemmas.Bool.{ltb-false}
use Rattle.wire.specs.Flags.{when}
use Rattle.answers.specs.Answer.{numbers, told}
use Rattle.answers.specs.declared.answer.Refusal.TheVariants as R
use Rattle.s2xv2_text.specs.Dump.{dump_of, dump_told, room}
use Rattle.s2xv2_text.proofs.Most.{dump-most}

pub text-within : (s out : List ℕ) (n : ℕ) → told (Ok n) ≡ dump_told s out → n ≤ length out
unfolding dump_told
text-within s out n e = by (nat_lt (length out) room) refl e
  where
    by : (t : Bool) → nat_lt (length out) room ≡ t
        → told (Ok n) ≡ when t (numbers (R.Room room (length out))) (told (Ok (length (dump_of s)))) → n ≤ length out
    by true l e = cc
    by false l e =
        let q : n ≡ length (dump_of s) = cc in
        omega (arith, dump-most s, ltb-false (length out) room l)
