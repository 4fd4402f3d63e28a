-- A byte at a place of a frame.
use Rattle.std.specs.Prelude.{◌≡◌, ℕ, ◌<◌, ◌≤◌, List, length, Some, None, Option, slice_index}

-- the byte that stands there, or nothing behind the last
abbrev pub ByteAt : List ℕ → ℕ → Option ℕ → Type 0
ByteAt xs i (Some x) = (i < length xs) × (x ≡ slice_index xs i)
ByteAt xs i None = length xs ≤ i
