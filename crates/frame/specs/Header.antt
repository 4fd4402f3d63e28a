-- What it means to take a header off a message.
use Rattle.std.specs.Prelude.{◌≡◌, ℕ, ◌-◌, ◌<◌, ◌≤◌, List, length, take, drop, Some, None, Option, slice_index}
use Rattle.std.specs.Borrow.{Bor}
use Rattle.model.specs.Frames.{length_byte}
use Rattle.frame.specs.declared.header.Header.{Header}

-- three bytes by their places, and from place 3 on all that are left; or there are too few
abbrev pub Splits : List ℕ → Option (Header × Bor (List ℕ)) → Type 0
Splits xs (Some p) =
    (3 ≤ length xs) × (p.0.source ≡ slice_index xs 0) × (p.0.destination ≡ slice_index xs 1) × (p.0.length ≡ length_byte xs)
    × (p.1.now ≡ take (length xs - 3) (drop 3 xs))
Splits xs None = length xs < 3
