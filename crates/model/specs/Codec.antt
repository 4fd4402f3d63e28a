-- What is sent is read, and what is read was sent.
use Rattle.std.specs.Prelude.{◌≡◌, ℕ, ◌*◌, ◌<◌, Bool, false, List, [], ◌∷◌, length, take}
use Rattle.model.specs.Frames.{Message, framed, frame_levels}
use Rattle.model.specs.Reading.{Reading, between, Heard, unfinished, right, heard, opened}

-- Where the reading of a frame starts. A hunting receiver that was idle passes over ones and takes a 0 for a
-- start bit, as one between bytes does that has read none (starts_idle, below).
abbrev pub after_idle : Reading
after_idle = between []

-- the frame has not ended
abbrev pub Unfinished : Heard → Type 0
Unfinished h = (r : Reading) × (h ≡ unfinished r)

-- the levels of a message's frame end right with that frame, at the last level and at none before
pub record ReadsBack (xs : List ℕ) : Type 0 where
  pub at_last : heard after_idle (frame_levels xs) ≡ right (framed xs) 0
  pub not_before : (n : ℕ) → n < length (frame_levels xs) → Unfinished (heard after_idle (take n (frame_levels xs)))

-- these bytes are a message with its CRC, and these levels are its frame's
pub record FrameOf (m bytes : List ℕ) (ls : List Bool) : Type 0 where
  pub is_message : Message m
  pub with_crc : bytes ≡ framed m
  pub as_levels : ls ≡ frame_levels m

-- both ways
pub record Codec : Type 0 where
  pub starts_idle : (ls : List Bool) → heard after_idle (false ∷ ls) ≡ heard (opened false) ls
  pub sent_is_read : (m : List ℕ) → Message m → ReadsBack m
  -- levels without gaps are ten for each byte
  pub read_was_sent : (ls : List Bool) (bytes : List ℕ) → heard after_idle ls ≡ right bytes 0
      → length ls ≡ 10 * length bytes → (m : List ℕ) × FrameOf m bytes ls
