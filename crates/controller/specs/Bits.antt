-- The bits of control bytes.
use Rattle.std.specs.Prelude.{ℕ, cond, ◌==◌}

-- the number of a mask's bit, of the five that control bytes have
abbrev pub bit_of : ℕ → ℕ
bit_of mask = cond (mask == 0x01) 0 (cond (mask == 0x02) 1 (cond (mask == 0x04) 2 (cond (mask == 0x08) 3 4)))
