-- When a slot is in good form, and where its body is (docs/ANSWERS.md, 'Slot and job'). Assumes nothing.
-- `byte_at`                                        a byte of a slot
-- `all`                                            every test of a list holds
-- `count`                                          how many of them hold
-- `good_size`                                      a slot may have so many bytes
-- `is_stuffing`                                    a descriptor is stuffing
-- `is_tagged`                                      a descriptor has our tag
-- `is_ours`                                        a descriptor is one of ours
-- `form_tests`                                     the tests of good form
-- `good_form`                                      a slot is in good form
-- `first_ours`                                     the offset of the first of ours among descriptors
-- `ours`                                           the offset of the one of ours in a slot
-- `body_at`                                        the body of the descriptor at a place
-- `runs_past`, `foreign`, `length_zero`, `second`  the four causes that a descriptor breaks the form
-- `breaking`                                       one that lies whole has a cause
-- `breaks_from`                                    the offset of the first that has one, along the walk
-- `breaks`                                         where a slot breaks the form
-- `judged`                                         the form by where it breaks, and where the one of ours starts
-- `form_of`                                        the form of a slot
use Rattle.std.specs.Prelude.{ℕ, suc, ◌+◌, ◌-◌, List, [], ◌∷◌, map, Bool, true, false, not, cond, ◌&&◌, ◌||◌, length, get_or, take, drop, leb, eqb}
use Rattle.std.proofs.Math.Option.{Option, none, some}
use Rattle.form.specs.Envelope.{tag, extension, stuffing_tag, envelope_size}
use Rattle.form.specs.Walk.{Descriptor, Walk, whole, stops, walk, descriptors, stop}
use Rattle.form.specs.declared.good.Form.{Form}
use Rattle.form.specs.declared.good.Form.TheVariants as F

-- the byte at a place, 0 behind the end
abbrev pub byte_at : List ℕ → ℕ → ℕ
byte_at s i = get_or s i 0

-- every test of a list holds, and how many do
abbrev pub all : List Bool → Bool
all [] = true
all (b ∷ bs) = b && all bs

abbrev pub count : List Bool → ℕ
count [] = 0
count (b ∷ bs) = cond b (suc (count bs)) (count bs)

-- n from 21 to 257
unfoldable pub good_size : ℕ → Bool
good_size n = all (leb 21 n ∷ leb n 257 ∷ [])

-- a descriptor is 0x42, or 0x7F with length at least 1 and third byte 0x24
abbrev pub is_stuffing : Descriptor → Bool
is_stuffing d = eqb d.tag stuffing_tag

abbrev pub is_tagged : Descriptor → Bool
is_tagged d = eqb d.tag tag

unfoldable pub is_ours : Descriptor → Bool
is_ours d = all (is_tagged d ∷ leb 1 (length d.content) ∷ eqb (byte_at d.content 0) extension ∷ [])

-- GOOD FORM: descriptors that cover the n bytes exactly, each of them stuffing or ours, at most one of them ours
abbrev pub form_tests : List ℕ → List Bool
form_tests s =
    good_size (length s)
    ∷ eqb (stop (walk s)) (length s)
    ∷ all (map (λ d. is_stuffing d || is_ours d) (descriptors (walk s)))
    ∷ leb (count (map is_ours (descriptors (walk s)))) 1
    ∷ []

unfoldable pub good_form : List ℕ → Bool
good_form s = all (form_tests s)

-- the one of ours, and its body: behind tag, length and extension, to the end of that descriptor
unfoldable pub first_ours : List Descriptor → Option ℕ
first_ours [] = none
first_ours (d ∷ ds) = cond (is_ours d) (some d.offset) (first_ours ds)

unfoldable pub ours : List ℕ → Option ℕ
ours s = first_ours (descriptors (walk s))

abbrev pub body_at : List ℕ → ℕ → List ℕ
body_at s at = take (byte_at s (at + 1) - 1) (drop (at + envelope_size) s)

-- WHERE THE FORM BREAKS: at the first descriptor, in the walk's order, with one of four causes
-- 1. it runs past the end n, or has only one byte left: there the walk stops
abbrev pub runs_past : ℕ → ℕ → Bool
runs_past n at = not (eqb at n)

-- 2. its tag is neither 0x42 nor 0x7F, or it is a 0x7F whose third byte is not 0x24
abbrev pub foreign : Descriptor → Bool
foreign d = not (is_stuffing d || is_tagged d) || (is_tagged d && not (eqb (byte_at d.content 0) extension))

-- 3. it is a 0x7F of length 0
abbrev pub length_zero : Descriptor → Bool
length_zero d = is_tagged d && eqb (length d.content) 0

-- 4. it is the second 0x7F (`met`: one of ours stands in front of it)
abbrev pub second : Bool → Descriptor → Bool
second met d = is_tagged d && met

abbrev pub breaking : Bool → Descriptor → Bool
breaking met d = foreign d || (length_zero d || second met d)

unfoldable pub breaks_from : Bool → ℕ → Walk → Option ℕ
breaks_from met n (whole d w) = cond (breaking met d) (some d.offset) (breaks_from (met || is_ours d) n w)
breaks_from met n (stops at) = cond (runs_past n at) (some at) none

unfoldable pub breaks : List ℕ → Option ℕ
breaks s = breaks_from false (length s) (walk s)

-- a wrong size, else where it breaks, else whether and where there is one of ours
abbrev pub judged : Option ℕ → Option ℕ → Form
judged (some at) o = F.Broken at
judged none none = F.Empty
judged none (some at) = F.Ours at

unfoldable pub form_of : List ℕ → Form
form_of s = cond (good_size (length s)) (judged (breaks s) (ours s)) F.Size
