-- `s2xv2_text::body::text` meets its contract: the arm that was taken says what the reader told.
-- Assumes nothing.
use Rattle.lines.proofs.Laws.{same_text}
use Rattle.s2xv2_text.proofs.Answered.{tail_within, accepted-text, refused-text}
use Rattle.s2xv2_text.proofs.body.text.Goals as goal

pub overflow_sub-sel : goal.overflow_sub-sel
overflow_sub-sel c =
    let parse = c.parse in
    tail_within c.args.sel.now parse.result parse.ensures _ c.in-Ok.is

pub returns-in-Ok : goal.returns-in-Ok
returns-in-Ok c =
    let parse = c.parse in
    let s = c.args.sel.now in
    same_text (accepted-text s parse.result parse.ensures _ c.in-Ok.is) c.accepted.ensures

pub returns-in-Err : goal.returns-in-Err
returns-in-Err c =
    let parse = c.parse in
    let s = c.args.sel.now in
    same_text (refused-text s parse.result parse.ensures _ c.in-Err.is) c.refused.ensures
