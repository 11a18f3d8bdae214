-- EN 300 468, Table 144c: the modes, their codes, and what Table 144b asks for in each. Assumes nothing.
-- `mode_of`         the mode of a code
-- `code_of`         the code of a mode
-- `has_selector`    a mode has the scrambling selector
-- `has_timeslice`   a mode has a timeslice
-- `has_superframe`  a mode has a superframe block
use Rattle.std.specs.Prelude.{ℕ, Bool, true, false, eqb}
use Rattle.wire.specs.Flags.{when}
use Rattle.s2xv2.specs.declared.mode.S2Xv2Mode.{S2Xv2Mode}
use Rattle.s2xv2.specs.declared.mode.S2Xv2Mode.TheVariants.{Reserved0, S2X, S2XTimeSlicing, Reserved3, S2XSuperframe, S2XSuperframeTimeSlicing, Reserved}

unfoldable pub mode_of : ℕ → S2Xv2Mode
mode_of v =
    when (eqb v 0) Reserved0
    (when (eqb v 1) S2X
    (when (eqb v 2) S2XTimeSlicing
    (when (eqb v 3) Reserved3 (when (eqb v 4) S2XSuperframe (when (eqb v 5) S2XSuperframeTimeSlicing (Reserved v))))))

abbrev pub code_of : S2Xv2Mode → ℕ
code_of Reserved0 = 0
code_of S2X = 1
code_of S2XTimeSlicing = 2
code_of Reserved3 = 3
code_of S2XSuperframe = 4
code_of S2XSuperframeTimeSlicing = 5
code_of (Reserved v) = v

-- modes 1 and 2
abbrev pub has_selector : S2Xv2Mode → Bool
has_selector Reserved0 = false
has_selector S2X = true
has_selector S2XTimeSlicing = true
has_selector Reserved3 = false
has_selector S2XSuperframe = false
has_selector S2XSuperframeTimeSlicing = false
has_selector (Reserved v) = false

-- modes 2 and 5
abbrev pub has_timeslice : S2Xv2Mode → Bool
has_timeslice Reserved0 = false
has_timeslice S2X = false
has_timeslice S2XTimeSlicing = true
has_timeslice Reserved3 = false
has_timeslice S2XSuperframe = false
has_timeslice S2XSuperframeTimeSlicing = true
has_timeslice (Reserved v) = false

-- modes 4 and 5
abbrev pub has_superframe : S2Xv2Mode → Bool
has_superframe Reserved0 = false
has_superframe S2X = false
has_superframe S2XTimeSlicing = false
has_superframe Reserved3 = false
has_superframe S2XSuperframe = true
has_superframe S2XSuperframeTimeSlicing = true
has_superframe (Reserved v) = false
