-- The CRC of the Modbus serial line standard, over the bits of a message as they are sent.
use Rattle.std.specs.Prelude.{ℕ, ◌*◌, ◌/◌, ◌%◌, Bool, List, [], ◌∷◌, ◌++◌, bit_xor}
use Rattle.model.specs.Bits.{bit, bits}

-- the bits of bytes in the order in which they are sent
abbrev pub sent_bits : List ℕ → List Bool
sent_bits [] = []
sent_bits (x ∷ xs) = bits 8 x ++ sent_bits xs

-- the register shifted one place down; if a 1 falls out, the reflected polynomial is put over it
unfoldable pub shifted : ℕ → ℕ
shifted c = bit_xor (c / 2) (c % 2 * 0xA001)

-- a bit is put over the lowest place, and the register shifts
abbrev pub fed : ℕ → Bool → ℕ
fed c b = shifted (bit_xor c (bit b))

-- bits fed one after the other
abbrev pub fed_all : ℕ → List Bool → ℕ
fed_all c [] = c
fed_all c (b ∷ bs) = fed_all (fed c b) bs

-- the register starts with all ones
abbrev pub crc_of : List ℕ → ℕ
crc_of xs = fed_all 0xFFFF (sent_bits xs)
