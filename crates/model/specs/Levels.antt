-- Bytes as levels on the line, without gaps. A level is a Bool: true is 1, the level of a line that nobody drives.
use Rattle.std.specs.Prelude.{ℕ, ◌<◌, Bool, true, false, List, [], ◌∷◌, ◌++◌}
use Rattle.model.specs.Bits.{bits}

-- numbers that are bytes
abbrev pub Bytes : List ℕ → Type 0
Bytes [] = Unit {0}
Bytes (x ∷ xs) = (x < 256) × Bytes xs

-- a byte is a start bit 0, its eight bits with the lowest first, and a stop bit 1
abbrev pub levels : List ℕ → List Bool
levels [] = []
levels (x ∷ xs) = false ∷ bits 8 x ++ (true ∷ levels xs)
