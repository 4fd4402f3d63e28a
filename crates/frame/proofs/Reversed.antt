-- Bytes with their bits in opposite order, and who keeps the line by them.
use Rattle.std.proofs.Common.{◌≡◌, ℕ, zero, suc, ◌+◌, ◌*◌, ◌/◌, ◌<◌, Bool, List, [], ◌∷◌, sym, refl, ap, ◌∙◌, Less, Equal, Greater, w8}
use mathlib.Core.List.{reverse_aux}
use Rattle.std.specs.Int.{reverse_bits, reverse_bits_onto}
use Rattle.std.specs.Ordering.{nat_cmp}
use Rattle.std.proofs.lemmas.Cmp.{ranked}
use Rattle.model.specs.Bits.{bits, odd, number, reversed}
use Rattle.model.specs.Arbitration.{KeepsLine}
use Rattle.model.proofs.Bits.{bit-odd}
use Rattle.model.proofs.Arbitration.{lower_keeps_line, reversed-apart}

-- the bits of a byte, lowest first, put one by one before the others
onto : (k n : ℕ) (before : List Bool) → reverse_bits_onto k n (number before) ≡ number (reverse_aux (bits k n) before)
unfolding reverse_bits_onto number
onto zero n before = refl
onto (suc k) n before =
    ap (λ x. reverse_bits_onto k (n / 2) (number before * 2 + x)) (sym (bit-odd n)) ∙ onto k (n / 2) (odd n ∷ before)

pub reverse_bits_reversed : (n : ℕ) → reverse_bits w8 n ≡ reversed n
unfolding reversed number
reverse_bits_reversed n = onto 8 n []

pub lower_goes_first : (a b : ℕ) → Less ≡ nat_cmp (reversed a) (reversed b) → (reversed a < reversed b) × KeepsLine a b
lower_goes_first a b e = let lt = ranked (reversed a) (reversed b) Less e in (lt, lower_keeps_line a b lt)

pub higher_goes_second : (a b : ℕ) → Greater ≡ nat_cmp (reversed a) (reversed b) → (reversed b < reversed a) × KeepsLine b a
higher_goes_second a b e = let lt = ranked (reversed a) (reversed b) Greater e in (lt, lower_keeps_line b a lt)

pub same_source : (a b : ℕ) → a < 256 → b < 256 → Equal ≡ nat_cmp (reversed a) (reversed b) → a ≡ b
same_source a b ha hb e = reversed-apart a b ha hb (ranked (reversed a) (reversed b) Equal e)
