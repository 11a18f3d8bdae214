-- How long the text of a body can get: `dump-most`, at most 1,067 bytes, so that a buffer of 2,048 holds it. The rest are its parts.
-- Assumes nothing.
use Rattle.std.specs.Prelude.{ℕ, ◌≤◌, eqb, ltb, List, [], ◌∷◌, length}
use native.Mathlib.Omega.{arith}
use Rattle.answers.specs.Short.{Need, short_told}
use Rattle.s2xv2.specs.Read.{needs, present_in, body_size, short_of, read_told, read_of, tail_of}
use Rattle.answers.specs.Answer.{number_of}
use Rattle.s2xv2.specs.declared.record.S2Xv2SatelliteDeliverySystem.{S2Xv2SatelliteDeliverySystem}
use Rattle.lines.specs.Line.{codes, refused_of}
use Rattle.lines.proofs.Length.{Most, three, four, line-most, either, name-most, one_byte, upto, words-most}
use Rattle.s2xv2_fields.proofs.Most.{core-most, parts-most, superframe-most}
use Rattle.s2xv2_text.specs.Dump.{body_of, dump_of}

body-most : (n : ℕ) (r : S2Xv2SatelliteDeliverySystem) (t : ℕ) → Most (body_of n r t) 1067
unfolding body_of
body-most n r t = four (core-most n r) (parts-most r) (superframe-most _) (line-most _ _)

short-most : (s : List ℕ) (ns : List Need) (o : List ℕ) → Most o 5 → Most (short_told (short_of s) (length s) ns o) 5
short-most s [] o x = x
short-most s (n ∷ ns) o x = either (ltb (length s) n.need) (record { le = omega arith }) (short-most s ns o x)

told-most : (s : List ℕ) → Most (read_told s) 5
unfolding read_told
told-most s =
    either (ltb 4096 (length s)) (record { le = omega arith })
    (short-most s (needs s (present_in s)) (0 ∷ body_size s ∷ []) (record { le = omega arith }))

refused-most : {told : List ℕ} → Most told 5 → Most (refused_of told) 63
unfolding refused_of
refused-most {told} x = upto 63 (omega (arith, x.le)) (three (name-most (codes "refused")) (words-most told) (one_byte 10))

pub dump-most : (s : List ℕ) → length (dump_of s) ≤ 1067
unfolding dump_of
dump-most s =
    (either (eqb (number_of (read_told s)) 0) (body-most (length s) (read_of s).body (length (tail_of s))) (upto 1067 (omega arith) (refused-most (told-most s)))
    ).le
