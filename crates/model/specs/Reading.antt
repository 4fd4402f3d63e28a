-- How a receiver reads a frame, level by level, and how the frame ends.
use Rattle.std.specs.Prelude.{ℕ, zero, suc, ◌+◌, ◌-◌, ◌*◌, Bool, true, false, cond, ◌&&◌, List, [], ◌∷◌, ◌++◌, length, take, ◌==◌, nat_le, nat_lt, slice_index}
use Rattle.model.specs.Bits.{number}
use Rattle.model.specs.Crc.{crc_of}
use Rattle.model.specs.Frames.{max_data, length_byte}

-- A receiver hunts for a frame; or it is in one, between bytes, with those read so far;
-- or inside a byte of it, with the number of bits still to come and those that came.
pub data Reading : Type 0 where
  hunting : Reading
  between : List ℕ → Reading
  inside : List ℕ → ℕ → List Bool → Reading

-- what a level makes of a frame that is being read: it goes on, or ends with these bytes
pub data Step : Type 0 where
  goes : Reading → Step
  ends_broken : List ℕ → Step
  ends_right : List ℕ → Step

-- the two last of these bytes are the CRC of those before, low byte first
unfoldable pub crc_right : List ℕ → Bool
crc_right xs =
    (crc_of (take (length xs - 2) xs) == slice_index xs (length xs - 2) + slice_index xs (length xs - 1) * 256)

-- the length byte has just been read, and no frame is that long
abbrev pub too_long : List ℕ → Bool
too_long xs = length xs == 3 && nat_lt max_data (length_byte xs)

-- all that the length byte promised has been read, with the CRC
abbrev pub complete : List ℕ → Bool
complete xs = nat_le 3 (length xs) && length xs == length_byte xs + 5

-- judged at a byte's stop bit, in this order: the stop bit, the length, the CRC
abbrev pub judged : Bool → List ℕ → Step
judged false xs = ends_broken xs
judged true xs =
    cond (too_long xs) (ends_broken xs)
    (cond (complete xs) (cond (crc_right xs) (ends_right xs) (ends_broken xs)) (goes (between xs)))

-- one level; ones between bytes are passed over
abbrev pub reads : Bool → Reading → Step
reads level hunting = goes hunting
reads false (between xs) = goes (inside xs 8 [])
reads true (between xs) = goes (between xs)
reads level (inside xs (suc n) bs) = goes (inside xs n (bs ++ (level ∷ [])))
reads level (inside xs zero bs) = judged level (xs ++ (number bs ∷ []))

-- the bytes whose eight bits were read
abbrev pub bytes_read : Reading → List ℕ
bytes_read hunting = []
bytes_read (between xs) = xs
bytes_read (inside xs zero bs) = xs ++ (number bs ∷ [])
bytes_read (inside xs (suc n) bs) = xs

-- what a hunting receiver that was idle makes of a level: a 0 is a start bit
abbrev pub opened : Bool → Reading
opened true = hunting
opened false = inside [] 8 []

-- ---- many levels

-- levels read until the frame ends: it has not ended; or it has, with these bytes and so many levels left over
pub data Heard : Type 0 where
  unfinished : Reading → Heard
  broken : List ℕ → ℕ → Heard
  right : List ℕ → ℕ → Heard

-- levels read from a step on
abbrev pub heard_on : List Bool → Step → Heard
heard_on [] (goes r) = unfinished r
heard_on [] (ends_broken xs) = broken xs 0
heard_on [] (ends_right xs) = right xs 0
heard_on (level ∷ more) (goes r) = heard_on more (reads level r)
heard_on (level ∷ more) (ends_broken xs) = broken xs (length (level ∷ more))
heard_on (level ∷ more) (ends_right xs) = right xs (length (level ∷ more))

-- levels read from where a receiver stands
abbrev pub heard : Reading → List Bool → Heard
heard r levels = heard_on levels (goes r)
