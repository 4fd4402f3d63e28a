-- What becomes of a message on the line.
use Rattle.std.specs.Prelude.{◌≡◌, ℕ, Bool, List, length, Some, None, Option, vec_items}
use Rattle.model.specs.Frames.{Message, framed, frame_levels}
use Rattle.model.specs.Disturbance.{pulled_low, ShortBurst}
use Rattle.model.specs.Codec.{after_idle}
use Rattle.model.specs.Reading.{heard}
use Rattle.frame.specs.Read.{ReadAs}
use Rattle.frame.specs.declared.reader.read.Reading.{Reading}
use Rattle.frame.specs.declared.reader.Ending.TheVariants.{Right}
use Rattle.order.specs.declared.burst.Burst.{Burst}
use Rattle.order.specs.declared.delivery.Delivery.{Delivery}
use Rattle.order.specs.Burst.{pulls}

-- it reads as right with the message's frame, at the last level
abbrev pub ReadsRight : List ℕ → List Bool → Option Reading → Type 0
ReadsRight m ls (Some r) = (r.ending ≡ Right) × (vec_items r.bytes ≡ framed m) × (r.levels ≡ length ls)
ReadsRight m ls None = ⊥

-- if it reads as right, then with the message's frame
abbrev pub NeverOther : List ℕ → Option Reading → Type 0
NeverOther m (Some r) = r.ending ≡ Right → vec_items r.bytes ≡ framed m
NeverOther m None = Unit {0}

-- the reading is what the rules make of the levels
abbrev pub ReadSo : Delivery → Type 0
ReadSo d = ReadAs (length (vec_items d.levels)) (heard after_idle (vec_items d.levels)) d.reading

-- what a receiver makes of levels: those of a message's frame read right, and with a short burst never as another's
pub record HeardBy (ls : List Bool) (d : Delivery) : Type 0 where
  pub same : vec_items d.levels ≡ ls
  pub read_so : ReadSo d
  pub reads_right : (m : List ℕ) → Message m → ls ≡ frame_levels m → ReadsRight m ls d.reading
  pub never_other : (m : List ℕ) → Message m → (start : ℕ) (ps : List Bool) → ShortBurst start ps
      → ls ≡ pulled_low (frame_levels m) ps → NeverOther m d.reading

-- the levels of a message's frame with a short burst in them
pub record PulledFrame (m : List ℕ) (b : Burst) (ls : List Bool) : Type 0 where
  pub message : Message m
  pub short : ShortBurst b.start (pulls b)
  pub pulled : ls ≡ pulled_low (frame_levels m) (pulls b)

-- a message over a quiet line
abbrev pub Delivered : List ℕ → Delivery → Type 0
Delivered m d = (vec_items d.levels ≡ frame_levels m) × ReadsRight m (vec_items d.levels) d.reading

-- a message over a line that a burst pulls
abbrev pub Disturbed : List ℕ → Burst → Delivery → Type 0
Disturbed m b d =
    (vec_items d.levels ≡ pulled_low (frame_levels m) (pulls b)) × ReadSo d × NeverOther m d.reading
