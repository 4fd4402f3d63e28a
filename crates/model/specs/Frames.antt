-- Messages, and the frames that carry them.
use Rattle.std.specs.Prelude.{◌≡◌, ℕ, ◌+◌, ◌/◌, ◌%◌, ◌≤◌, Bool, List, [], ◌∷◌, ◌++◌, length, take, slice_index}
use Rattle.model.specs.Crc.{crc_of}
use Rattle.model.specs.Levels.{Bytes, levels}

-- the most data bytes that a frame carries
abbrev pub max_data : ℕ
max_data = 253

-- the length byte of what begins with source, destination and length
abbrev pub length_byte : List ℕ → ℕ
length_byte xs = slice_index xs 2

-- a message: source, destination, length L and L data bytes
pub record Message (xs : List ℕ) : Type 0 where
  pub bytes : Bytes xs
  pub small : length_byte xs ≤ max_data
  pub whole : length xs ≡ length_byte xs + 3

-- a message with its CRC, low byte first
abbrev pub framed : List ℕ → List ℕ
framed xs = xs ++ (crc_of xs % 256 ∷ crc_of xs / 256 ∷ [])

-- the levels of the frame that carries a message
abbrev pub frame_levels : List ℕ → List Bool
frame_levels xs = levels (framed xs)

-- the message in a page
abbrev pub message : List ℕ → List ℕ
message page = take (length_byte page + 3) page
