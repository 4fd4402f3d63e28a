-- The lower reversed byte keeps the line.
use Rattle.std.proofs.Common.{◌≡◌, ℕ, suc, ◌+◌, ◌*◌, ◌^◌, ◌<◌, Bool, true, false, List, [], ◌∷◌, ◌++◌, reverse, length, get_or, take, sym, refl, ap, ◌∙◌, subst, pow-suc, arith}
use mathlib.Core.List.{reverse-cons, reverse-reverse}
use native.Mathlib.Nat.{suc_inj}
use lib.ListN.{length-reverse}
use Rattle.model.specs.Bits.{bit, bits, number, reversed}
use Rattle.model.specs.Arbitration.{KeepsLine}
use Rattle.model.proofs.Bits.{number-bits, number_lt, number-apart}

-- in the first place in which they differ, u has 0 and v has 1
record GoesBefore (u v : List Bool) : Type 0 where
  place : ℕ
  in_u : place < length u
  same_before : take place u ≡ take place v
  has_zero : get_or u place true ≡ false
  has_one : get_or v place false ≡ true

-- the last bit is the highest of the number
number-last : (bs : List Bool) (b : Bool) → number (bs ++ (b ∷ [])) ≡ number bs + bit b * 2 ^ length bs
unfolding number
number-last [] b = omega arith
number-last (x ∷ bs) b = rw pow-suc (omega (arith, number-last bs b))

number-reverse_cons : (b : Bool) (bs : List Bool) → number (reverse (b ∷ bs)) ≡ number (reverse bs) + bit b * 2 ^ length bs
number-reverse_cons b bs = rw (reverse-cons, number-last, length-reverse)

number-reverse_lt : (bs : List Bool) → number (reverse bs) < 2 ^ length bs
number-reverse_lt bs = subst (λ n. number (reverse bs) < 2 ^ n) (length-reverse bs) (number_lt (reverse bs))

behind : (b : Bool) {u v : List Bool} → GoesBefore u v → GoesBefore (b ∷ u) (b ∷ v)
behind b g =
    record {
      place = suc g.place;
      in_u = omega (arith, g.in_u);
      same_before = ap (λ xs. b ∷ xs) g.same_before;
      has_zero = g.has_zero;
      has_one = g.has_one;
    }

goes_before : (u v : List Bool) → length u ≡ length v → number (reverse u) < number (reverse v) → GoesBefore u v
goes_before [] [] l h = absurd (omega arith)
goes_before [] (b ∷ v) l h = absurd (omega arith)
goes_before (a ∷ u) [] l h = absurd (omega arith)
goes_before (false ∷ u) (true ∷ v) l h =
    record { place = 0; in_u = omega arith; same_before = refl; has_zero = refl; has_one = refl }
goes_before (true ∷ u) (false ∷ v) l h =
    let same : 2 ^ length u ≡ 2 ^ length v = ap (λ n. 2 ^ n) (suc_inj l) in
    absurd (omega (arith, number-reverse_cons true u, number-reverse_cons false v, number-reverse_lt v))
goes_before (false ∷ u) (false ∷ v) l h =
    behind false
    (goes_before u v (suc_inj l) (omega (arith, number-reverse_cons false u, number-reverse_cons false v)))
goes_before (true ∷ u) (true ∷ v) l h =
    let same : 2 ^ length u ≡ 2 ^ length v = ap (λ n. 2 ^ n) (suc_inj l) in
    behind true
    (goes_before u v (suc_inj l) (omega (arith, number-reverse_cons true u, number-reverse_cons true v)))

pub lower_keeps_line : (a b : ℕ) → reversed a < reversed b → KeepsLine a b
unfolding reversed
lower_keeps_line a b h =
    let g = goes_before (bits 8 a) (bits 8 b) refl h in
    record {
      place = g.place;
      in_byte = g.in_u;
      same_before = g.same_before;
      drives_zero = g.has_zero;
      against_one = g.has_one;
    }

pub reversed-apart : (a b : ℕ) → a < 256 → b < 256 → reversed a ≡ reversed b → a ≡ b
unfolding reversed
reversed-apart a b ha hb e =
    sym (number-bits 8 a ha) ∙ ap number same ∙ number-bits 8 b hb
  where
    same_reversed : reverse (bits 8 a) ≡ reverse (bits 8 b)
    same_reversed = number-apart (reverse (bits 8 a)) (reverse (bits 8 b)) refl e

    same : bits 8 a ≡ bits 8 b
    same = sym (reverse-reverse (bits 8 a)) ∙ ap reverse same_reversed ∙ reverse-reverse (bits 8 b)
