-- What a slot reads as by document 01, for the one statement that its slots read as they did. Assumes nothing.
-- `shown01`  that of a slot in document 01's form
use Rattle.std.specs.Prelude.{ℕ, List, eqb}
use Rattle.wire.specs.Flags.{when}
use Rattle.form.specs.Envelope.{stuffing_tag}
use Rattle.form.specs.Form.{byte_at, body_at}
use Rattle.slot.specs.Read.{Shown, shows_empty, shows_body}

-- empty if the first tag is 0x42, else the reader's answer for the body of the first descriptor
abbrev pub shown01 : List ℕ → Shown
shown01 s = when (eqb (byte_at s 0) stuffing_tag) shows_empty (shows_body 0 (body_at s 0))
