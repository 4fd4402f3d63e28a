-- What the code answers for levels that are read.
use Rattle.std.specs.Prelude.{◌≡◌, ℕ, ◌-◌, ◌≤◌, Some, None, Option, vec_items}
use Rattle.model.specs.Codec.{Unfinished as NotEnded}
use Rattle.model.specs.Reading.{Heard}
use Rattle.frame.specs.declared.reader.read.Reading.{Reading}
use Rattle.frame.specs.Reader.{ended_as}

-- how a frame ended, with its bytes and how many of all the levels were heard up to its end
abbrev pub ReadAs : ℕ → Heard → Option Reading → Type 0
ReadAs all h (Some r) = (h ≡ ended_as r.ending (vec_items r.bytes) (all - r.levels)) × (r.levels ≤ all)
ReadAs all h None = NotEnded h
