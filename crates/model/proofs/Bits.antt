-- Bits and the numbers that they write.
use Rattle.std.proofs.Common.{◌≡◌, ℕ, zero, suc, ◌+◌, ◌*◌, ◌/◌, ◌%◌, ◌^◌, ◌<◌, Bool, true, false, eqb, List, [], ◌∷◌, ◌++◌, length, sym, refl, ap, ◌∙◌, subst, ap₂, mul_assoc, pow-suc, arith}
use Rattle.model.specs.Bits.{bit, odd, bits, number}

pub bit-lt : (b : Bool) → bit b < 2
bit-lt true = omega arith
bit-lt false = omega arith

pub bit-odd : (x : ℕ) → bit (odd x) ≡ x % 2
bit-odd x = two (x % 2) (omega arith)
  where
    two : (y : ℕ) → y < 2 → bit (eqb y 1) ≡ y
    two zero h = refl
    two (suc zero) h = refl
    two (suc (suc y)) h = absurd (omega arith)

odd-bit : (n : ℕ) (b : Bool) → odd (n * 2 + bit b) ≡ b
odd-bit n b = ap (λ x. eqb x 1) (rest n (bit b) (bit-lt b)) ∙ back b
  where
    rest : (m r : ℕ) → r < 2 → (m * 2 + r) % 2 ≡ r
    rest m r h = omega arith

    back : (c : Bool) → eqb (bit c) 1 ≡ c
    back true = refl
    back false = refl

half_bit : (n : ℕ) (b : Bool) → (n * 2 + bit b) / 2 ≡ n
half_bit n b = omega (arith, bit-lt b)

pub length-bits : (n x : ℕ) → length (bits n x) ≡ n
length-bits zero x = refl
length-bits (suc n) x = ap suc (length-bits n (x / 2))

-- bits write the number that they are the bits of
pub number-bits : (n x : ℕ) → x < 2 ^ n → number (bits n x) ≡ x
unfolding number
number-bits zero x h = omega arith
number-bits (suc n) x h =
    let k : x / 2 < 2 ^ n = omega (arith, pow-suc 2 n) in
    omega (arith, number-bits n (x / 2) k, bit-odd x)

-- and are the bits of the number that they write
pub bits-number : (bs : List Bool) → bits (length bs) (number bs) ≡ bs
unfolding number
bits-number [] = refl
bits-number (b ∷ bs) =
    ap₂ (λ x xs. x ∷ xs) (odd-bit (number bs) b) (ap (bits (length bs)) (half_bit (number bs) b) ∙ bits-number bs)

-- lists of bits of one length that write the same number are the same
pub number-apart : (u v : List Bool) → length u ≡ length v → number u ≡ number v → u ≡ v
number-apart u v l e = sym (bits-number u) ∙ ap₂ bits l e ∙ bits-number v

pub number_lt : (bs : List Bool) → number bs < 2 ^ length bs
unfolding number
number_lt [] = omega arith
number_lt (b ∷ bs) = rw pow-suc (omega (arith, number_lt bs, bit-lt b))

-- eight bits are a byte
pub byte_lt : (bs : List Bool) → length bs ≡ 8 → number bs < 256
byte_lt bs e = subst (λ n. number bs < 2 ^ n) e (number_lt bs)

pub bits-byte : (bs : List Bool) → length bs ≡ 8 → bits 8 (number bs) ≡ bs
bits-byte bs e = ap (λ n. bits n (number bs)) (sym e) ∙ bits-number bs

-- a highest bit put over n lower ones
pub bits-top : (n x : ℕ) (b : Bool) → x < 2 ^ n → bits (suc n) (x + bit b * 2 ^ n) ≡ bits n x ++ (b ∷ [])
bits-top zero x b h = ap (λ y. odd y ∷ []) (omega arith) ∙ ap (λ c. c ∷ []) (odd-bit 0 b)
bits-top (suc n) x b h =
    let t = bit b * 2 ^ n in
    let twice : x + bit b * 2 ^ suc n ≡ x + t * 2 = ap (λ p. x + bit b * p) (pow-suc 2 n) ∙ ap (λ y. x + y) (sym (mul_assoc (bit b) (2 ^ n) 2)) in
    let small : x / 2 < 2 ^ n = omega (arith, pow-suc 2 n) in
    ap (bits (suc (suc n))) twice
    ∙ ap₂ (λ c y. eqb c 1 ∷ bits (suc n) y) (low t) (high t)
    ∙ ap (λ k. odd x ∷ k) (bits-top n (x / 2) b small)
  where
    low : (t : ℕ) → (x + t * 2) % 2 ≡ x % 2
    low t = omega arith

    high : (t : ℕ) → (x + t * 2) / 2 ≡ x / 2 + t
    high t = omega arith
