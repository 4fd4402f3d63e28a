-- A reader of the code as the rules see it.
use Rattle.std.specs.Prelude.{◌≡◌, ℕ, ◌-◌, ◌≤◌, List, take, drop, Some, None, Option}
use Rattle.model.specs.Bits.{bits}
use Rattle.model.specs.Reading.{Reading, hunting, between, inside, Step, goes, ends_broken, ends_right, Heard, unfinished, broken, right}
use Rattle.frame.specs.declared.reader.Phase.{Phase}
use Rattle.frame.specs.declared.reader.Phase.TheVariants.{Hunting, Between, Inside}
use Rattle.frame.specs.declared.reader.FrameReader.{FrameReader}
use Rattle.frame.specs.declared.reader.Ending.{Ending}
use Rattle.frame.specs.declared.reader.Ending.TheVariants.{Right, Broken}

-- where it stands in a frame of which it has read these bytes
abbrev pub standing : Phase → List ℕ → Reading
standing Hunting xs = hunting
standing Between xs = between xs
standing (Inside left value) xs = inside xs left (drop left (bits 8 value))

-- the bytes that it has read
abbrev pub bytes_of : FrameReader → List ℕ
bytes_of r = take r.count r.bytes

-- all of it, as the rules have it
abbrev pub reading : FrameReader → Reading
reading r = standing r.phase (bytes_of r)

-- how a frame of these bytes ended
abbrev pub ends : Ending → List ℕ → Step
ends Right xs = ends_right xs
ends Broken xs = ends_broken xs

-- what a judgment of bytes says
abbrev pub verdict : Option Ending → List ℕ → Step
verdict None xs = goes (between xs)
verdict (Some e) xs = ends e xs

-- what one level made of the frame, by the answer and the reader afterwards
abbrev pub stepped : Option Ending → FrameReader → Step
stepped None r = goes (reading r)
stepped (Some e) r = ends e (bytes_of r)

-- how a frame of these bytes ended among many levels, with so many left over
abbrev pub ended_as : Ending → List ℕ → ℕ → Heard
ended_as Right xs left = right xs left
ended_as Broken xs left = broken xs left

-- what so many levels made of the frame, by the answer and the reader afterwards
abbrev pub HeardAs : Heard → (all : ℕ) → FrameReader → Option (Ending × ℕ) → Type 0
HeardAs h all r None = h ≡ unfinished (reading r)
HeardAs h all r (Some p) = (h ≡ ended_as p.0 (bytes_of r) (all - p.1)) × (p.1 ≤ all)
