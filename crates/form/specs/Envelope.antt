-- Descriptors as bytes: that of a body, and the stuffing descriptor of EN 300 468. Assumes nothing.
-- `tag`, `extension`  descriptor_tag and descriptor_tag_extension, in front of a body
-- `stuffing_tag`      the tag of a stuffing descriptor
-- `filler`            the byte that a stuffing descriptor is filled with
-- `envelope_size`     how many bytes a descriptor has more than its body
-- `envelope`          the descriptor of a body
-- `stuffing`          so many bytes that are one stuffing descriptor
-- `holding`           a slot with a body in its envelope and stuffing behind it
use Rattle.std.specs.Prelude.{ℕ, zero, suc, ◌-◌, List, [], ◌∷◌, ◌++◌, length, replicate}

-- descriptor_tag and descriptor_tag_extension of S2Xv2
abbrev pub tag : ℕ
tag = 0x7F

abbrev pub extension : ℕ
extension = 0x24

-- the tag of a stuffing descriptor, and what stands in one
abbrev pub stuffing_tag : ℕ
stuffing_tag = 0x42

abbrev pub filler : ℕ
filler = 0xFF

-- the descriptor of a body: tag, length, extension, body
abbrev pub envelope_size : ℕ
envelope_size = 3

abbrev pub envelope : List ℕ → List ℕ
envelope body = tag ∷ suc (length body) ∷ extension ∷ body

-- m bytes that are one stuffing descriptor; one byte is too few for a descriptor, and no slot has one left
unfoldable pub stuffing : ℕ → List ℕ
stuffing zero = []
stuffing (suc zero) = stuffing_tag ∷ []
stuffing (suc (suc m)) = stuffing_tag ∷ m ∷ replicate m filler

-- a slot of n bytes that holds a body in its envelope, with stuffing behind it
unfoldable pub holding : ℕ → List ℕ → List ℕ
holding n body = envelope body ++ stuffing (n - length (envelope body))
