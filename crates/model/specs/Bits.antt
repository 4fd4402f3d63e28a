-- Bits of numbers. A list of bits has the lowest first, as they are sent.
use Rattle.std.specs.Prelude.{ℕ, zero, suc, ◌+◌, ◌*◌, ◌/◌, ◌%◌, ◌^◌, Bool, true, false, List, [], ◌∷◌, reverse, ◌==◌}

-- a bit as a number
abbrev pub bit : Bool → ℕ
bit true = 1
bit false = 0

-- the lowest bit is 1
abbrev pub odd : ℕ → Bool
odd x = x % 2 == 1

-- the n lowest bits of x
abbrev pub bits : ℕ → ℕ → List Bool
bits zero x = []
bits (suc n) x = odd x ∷ bits n (x / 2)

-- the number that bits write
unfoldable pub number : List Bool → ℕ
number [] = 0
number (b ∷ bs) = number bs * 2 + bit b

-- bit i of v is 1
unfoldable pub has : ℕ → ℕ → Bool
has v i = odd (v / 2 ^ i)

-- a byte with its eight bits in opposite order: of two senders that begin together the one whose
-- source byte has the lesser reversed byte keeps the line
unfoldable pub reversed : ℕ → ℕ
reversed x = number (reverse (bits 8 x))
