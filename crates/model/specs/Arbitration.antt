-- Who keeps the line where two source bytes are sent at once.
use Rattle.std.specs.Prelude.{◌≡◌, ℕ, ◌<◌, true, false, take, slice_index_or}
use Rattle.model.specs.Bits.{bits}

-- in the first of the eight bits in which the two differ, the one that keeps the line drives 0 against a 1
pub record KeepsLine (winner other : ℕ) : Type 0 where
  pub place : ℕ
  pub in_byte : place < 8
  pub same_before : take place (bits 8 winner) ≡ take place (bits 8 other)
  pub drives_zero : slice_index_or (bits 8 winner) place true ≡ false
  pub against_one : slice_index_or (bits 8 other) place false ≡ true
