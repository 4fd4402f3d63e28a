-- The levels of bytes, put together byte by byte.
use Rattle.std.proofs.Common.{◌≡◌, ℕ, true, false, List, [], ◌∷◌, ◌++◌, ap, refl}
use Rattle.std.specs.List.{flat_map}
use Rattle.model.specs.Bits.{bits}
use Rattle.model.specs.Levels.{levels}

pub each_byte : (xs : List ℕ) → flat_map (λ x. levels (x ∷ [])) xs ≡ levels xs
each_byte [] = refl
each_byte (x ∷ xs) = ap (λ ls. false ∷ bits 8 x ++ (true ∷ ls)) (each_byte xs)
