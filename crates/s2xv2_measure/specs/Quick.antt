-- What the quick tests find of the bytes of a record, at their places. Assumes nothing.
-- `word_of`   four bytes as one word, the first the lowest
-- `Word`      a word is that of four bytes, and each of them is one
-- `WordAt`    the same of the bytes from a place on
-- `asked_of`  what a mode asks for, as one word
-- `Agrees`    what is there is what is said to be there, and what the mode asks for
-- `Counted`   the flags by which a length is counted are bits
-- `Packed`    the flags that are packed into bytes are bits, and a scrambling selector that is set is there
-- `Fits`      both, and there are at most two bonds
use Rattle.std.specs.Prelude.{ℕ, ◌+◌, ◌*◌, ◌≤◌, ◌<◌, ◌≡◌, List, get_or}
use Rattle.wire.specs.Flags.{bit}
use Rattle.s2xv2.specs.Table144c.{mode_of, has_selector, has_timeslice, has_superframe}
use Rattle.s2xv2.specs.declared.mode.S2Xv2Mode.{S2Xv2Mode}
use Rattle.s2xv2_plain.specs.Output.{is_reserved}

abbrev pub word_of : ℕ → ℕ → ℕ → ℕ → ℕ
word_of a b c d = ((d * 256 + c) * 256 + b) * 256 + a

-- four bytes, and their word
pub record Word (a b c d r : ℕ) : Type 0 where
  pub word : r ≡ word_of a b c d
  pub first : a < 256
  pub second : b < 256
  pub third : c < 256
  pub fourth : d < 256

abbrev pub WordAt : List ℕ → ℕ → ℕ → Type 0
WordAt bs i r = Word (get_or bs i 0) (get_or bs (i + 1) 0) (get_or bs (i + 2) 0) (get_or bs (i + 3) 0) r

abbrev pub asked_of : S2Xv2Mode → ℕ
asked_of m = word_of (is_reserved m) (bit (has_selector m)) (bit (has_timeslice m)) (bit (has_superframe m))

pub record Agrees (bs : List ℕ) : Type 0 where
  pub stream : get_or bs 0 0 ≡ get_or bs 4 0
  pub index : get_or bs 1 0 ≡ get_or bs 5 0
  pub sffi : get_or bs 2 0 ≡ get_or bs 6 0
  pub plan : get_or bs 3 0 ≡ get_or bs 7 0
  pub bits : (get_or bs 0 0 < 2) × (get_or bs 1 0 < 2) × (get_or bs 2 0 < 2) × (get_or bs 3 0 < 2)
  pub reserved : get_or bs 8 0 ≡ is_reserved (mode_of (get_or bs 20 0))
  pub selector : get_or bs 9 0 ≡ bit (has_selector (mode_of (get_or bs 20 0)))
  pub timeslice : get_or bs 10 0 ≡ bit (has_timeslice (mode_of (get_or bs 20 0)))
  pub superframe : get_or bs 11 0 ≡ bit (has_superframe (mode_of (get_or bs 20 0)))

pub record Counted (bs : List ℕ) : Type 0 where
  pub selector : get_or bs 1 0 < 2
  pub plan : get_or bs 3 0 < 2
  pub has_stream : get_or bs 4 0 < 2
  pub has_selector : get_or bs 9 0 < 2
  pub has_timeslice : get_or bs 10 0 < 2

pub record Packed (bs : List ℕ) : Type 0 where
  pub stream : get_or bs 0 0 < 2
  pub selector : get_or bs 1 0 < 2
  pub sffi : get_or bs 2 0 < 2
  pub plan : get_or bs 3 0 < 2
  pub reference : get_or bs 13 0 < 2
  pub version : get_or bs 14 0 < 2
  pub asked : get_or bs 1 0 ≤ get_or bs 9 0

pub record Fits (bs : List ℕ) : Type 0 where
  pub counted : Counted bs
  pub packed : Packed bs
  pub few : get_or bs 15 0 ≡ 1 → get_or bs 22 0 ≤ 2
