-- What the checks of a table and a controller answer.
use Rattle.std.specs.Prelude.{◌≡◌, ℕ, ◌<◌, ◌≤◌, true, false, ◌⊎◌, Result, MatchResult}
use Rattle.controller.specs.declared.refusal.Refusal.{Refusal}
use Rattle.controller.specs.declared.refusal.Refusal.TheVariants.{TableSize, NoController}
use Rattle.model.specs.Operations.{table_size}

-- a table of so many places may be, or it is refused for its size
abbrev pub Sized : (places : ℕ) → Result (Unit {0}) Refusal → Type 0
Sized n r = MatchResult r (λ _. table_size n ≡ true) (λ e. (e ≡ TableSize) × (table_size n ≡ false))

-- it may be and the controller is in it, or it is refused for its size, or else for the controller
abbrev pub Placed : (controller places : ℕ) → Result (Unit {0}) Refusal → Type 0
Placed k n r =
    MatchResult r (λ _. (table_size n ≡ true) × (k < n))
    (λ e. (e ≡ TableSize) × (table_size n ≡ false) ⊎ (e ≡ NoController) × (table_size n ≡ true) × (n ≤ k))
