-- When a reader's buffer has room for what is still to come.
use Rattle.std.specs.Prelude.{ℕ, ◌+◌, Bool, ◌&&◌, ◌||◌, List, nat_le, nat_lt}
use Rattle.model.specs.Frames.{max_data, length_byte}
use Rattle.frame.specs.declared.reader.Phase.{Phase}
use Rattle.frame.specs.declared.reader.Phase.TheVariants.{Hunting, Between, Inside}

-- n bytes were read and the frame has not ended: the length byte is not read yet, or it says that more bytes come
abbrev pub goes_on : ℕ → ℕ → Bool
goes_on n length_byte = nat_lt n 3 || nat_le length_byte max_data && nat_lt n (length_byte + 5)

-- what a reader keeps true: there is room while a frame is open, and at most eight bits of a byte are to come
abbrev pub sound : Phase → ℕ → List ℕ → Bool
sound Hunting n bytes = nat_le n 258
sound Between n bytes = goes_on n (length_byte bytes)
sound (Inside left value) n bytes = goes_on n (length_byte bytes) && nat_le left 8
