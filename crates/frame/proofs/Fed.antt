-- Bytes fed into the register one after the other.
use Rattle.std.proofs.Common.{◌≡◌, ℕ, List, [], ◌∷◌, refl}
use Rattle.std.specs.List.{fold}
use Rattle.model.specs.Bits.{bits}
use Rattle.model.specs.Crc.{fed_all, sent_bits}

pub fold_feeds : (c : ℕ) (xs : List ℕ) → fold (λ r x. fed_all r (bits 8 x)) c xs ≡ fed_all c (sent_bits xs)
fold_feeds c [] = refl
fold_feeds c (x ∷ xs) = fold_feeds (fed_all c (bits 8 x)) xs
