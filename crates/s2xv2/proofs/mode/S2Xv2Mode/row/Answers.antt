-- `s2xv2::mode::S2Xv2Mode::row` meets its contract: the row of each mode that has a name is what the definitions have in it, and `Reserved` has none of the
-- parts.
-- Assumes nothing.
use Rattle.s2xv2.specs.Table144c.{mode_of}
use Rattle.s2xv2.proofs.mode.S2Xv2Mode.row.Goals as goal

pub returns-in-Reserved0 : goal.returns-in-Reserved0
unfolding mode_of
returns-in-Reserved0 c = rw c.in-Reserved0.is (rw c.row_at.ensures at c.parts_of.ensures)

pub returns-in-S2X : goal.returns-in-S2X
unfolding mode_of
returns-in-S2X c = rw c.in-S2X.is (rw c.row_at-in-S2X.ensures at c.parts_of-in-S2X.ensures)

pub returns-in-S2XTimeSlicing : goal.returns-in-S2XTimeSlicing
unfolding mode_of
returns-in-S2XTimeSlicing c = rw c.in-S2XTimeSlicing.is (rw c.row_at-in-S2XTimeSlicing.ensures at c.parts_of-in-S2XTimeSlicing.ensures)

pub returns-in-Reserved3 : goal.returns-in-Reserved3
unfolding mode_of
returns-in-Reserved3 c = rw c.in-Reserved3.is (rw c.row_at-in-Reserved3.ensures at c.parts_of-in-Reserved3.ensures)

pub returns-in-S2XSuperframe : goal.returns-in-S2XSuperframe
unfolding mode_of
returns-in-S2XSuperframe c = rw c.in-S2XSuperframe.is (rw c.row_at-in-S2XSuperframe.ensures at c.parts_of-in-S2XSuperframe.ensures)

pub returns-in-S2XSuperframeTimeSlicing : goal.returns-in-S2XSuperframeTimeSlicing
unfolding mode_of
returns-in-S2XSuperframeTimeSlicing c = rw c.in-S2XSuperframeTimeSlicing.is (rw c.row_at-in-S2XSuperframeTimeSlicing.ensures at c.parts_of-in-S2XSuperframeTimeSlicing.ensures)

pub returns-in-Reserved : goal.returns-in-Reserved
returns-in-Reserved c = rw c.in-Reserved.is (rw c.reserved_row.ensures at c.parts_of-in-Reserved.ensures)
