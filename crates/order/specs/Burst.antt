-- A burst of the code as a list of pulls.
use Rattle.std.specs.Prelude.{◌≡◌, ℕ, Bool, true, false, List, ◌++◌, replicate, Some, None, Option}
use Rattle.order.specs.declared.burst.Burst.{Burst}
use Rattle.order.specs.Bounds.{short}

-- no pull before the start, then as many as the burst is long
abbrev pub pulls : Burst → List Bool
pulls b = replicate b.start false ++ replicate b.count true

-- the burst that was asked for, or none because it is not short
abbrev pub MadeOf : ℕ → ℕ → Option Burst → Type 0
MadeOf start count (Some b) = (b.start ≡ start) × (b.count ≡ count)
MadeOf start count None = short start count ≡ false
