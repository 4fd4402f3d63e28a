-- What the code's answer says of two source bytes.
use Rattle.std.specs.Prelude.{◌≡◌, ℕ, ◌<◌}
use Rattle.model.specs.Arbitration.{KeepsLine}
use Rattle.model.specs.Bits.{reversed}
use Rattle.frame.specs.declared.arbitration.Arbitration.{Arbitration}
use Rattle.frame.specs.declared.arbitration.Arbitration.TheVariants.{First, Second, Tie}

-- who keeps the line, by the answer
abbrev pub Decided : ℕ → ℕ → Arbitration → Type 0
Decided a b First = (reversed a < reversed b) × KeepsLine a b
Decided a b Second = (reversed b < reversed a) × KeepsLine b a
Decided a b Tie = a ≡ b
