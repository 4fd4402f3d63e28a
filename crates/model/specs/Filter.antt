-- The filter: which frames a controller takes, by their source and destination.
use Rattle.std.specs.Prelude.{ℕ, Bool, true, false, cond, ◌||◌, List, [], ◌∷◌, ◌==◌}

-- FILTER, the controller's own address, and FILTER1 and FILTER2, two multicast addresses
pub record Filters : Type 0 where
  pub filter : ℕ
  pub filter1 : ℕ
  pub filter2 : ℕ

-- a rule of the filter: whether it fits a frame, and whether it then accepts
pub record Rule : Type 0 where
  pub fits : Bool
  pub accept : Bool

-- a rule written out
abbrev pub rule : Bool → Bool → Rule
rule fits accept = record { fits = fits; accept = accept }

-- the rules for a frame from a source to a destination, in their order
abbrev pub rules : Filters → ℕ → ℕ → List Rule
rules f source destination =
    rule (f.filter == 255) true  -- takes everything
    ∷ rule (source == f.filter) false  -- its own frames
    ∷ rule (destination == 255) true  -- broadcast
    ∷ rule (destination == f.filter1 || destination == f.filter2) true  -- multicast
    ∷ rule (destination == f.filter) true  -- to it alone
    ∷ []

-- the first rule that fits decides, and without one the frame is dropped
abbrev pub first_fit : List Rule → Bool
first_fit [] = false
first_fit (r ∷ rs) = cond r.fits r.accept (first_fit rs)

-- what the filter says of a frame
abbrev pub accepts : Filters → ℕ → ℕ → Bool
accepts f source destination = first_fit (rules f source destination)
