-- The laws of the CRC register.
use Rattle.std.proofs.Common.{◌≡◌, ℕ, zero, suc, ◌+◌, ◌*◌, ◌/◌, ◌%◌, ◌^◌, ◌<◌, Bool, List, [], ◌∷◌, ◌++◌, length, sym, refl, ap, ◌∙◌, ap₂, mul_assoc, pow-suc, mul-one, arith}
use lib.Bits.{bit_xor, xor_shr, xor_mod, xor_assoc, xor_comm, xor_self, xor_zero_r, xor_lt, xor_shifted}
use lib.Pow.{split}
use Rattle.model.specs.Bits.{bit, bits, number}
use Rattle.model.specs.Crc.{shifted, fed, fed_all}
use Rattle.model.proofs.Bits.{bit-lt, length-bits, number-bits}

pub xor_cancel : (a b c : ℕ) → bit_xor a c ≡ bit_xor b c → a ≡ b
xor_cancel a b c e = sym (back a) ∙ ap (λ x. bit_xor x c) e ∙ back b
  where
    back : (x : ℕ) → bit_xor (bit_xor x c) c ≡ x
    back x = xor_assoc x c c ∙ ap (bit_xor x) (xor_self c) ∙ xor_zero_r x

-- ---- one shift

-- the two in the middle change places
xor_middle : (a b c d : ℕ) → bit_xor (bit_xor a b) (bit_xor c d) ≡ bit_xor (bit_xor a c) (bit_xor b d)
xor_middle a b c d =
    xor_assoc a b (bit_xor c d)
    ∙ ap (bit_xor a) (sym (xor_assoc b c d) ∙ ap (λ x. bit_xor x d) (xor_comm b c) ∙ xor_assoc c b d)
    ∙ sym (xor_assoc a c (bit_xor b d))

polynomial_xor : (x y : ℕ) → x < 2 → y < 2 → bit_xor x y * 0xA001 ≡ bit_xor (x * 0xA001) (y * 0xA001)
polynomial_xor zero y hx hy = refl
polynomial_xor (suc zero) zero hx hy = refl
polynomial_xor (suc zero) (suc zero) hx hy = refl
polynomial_xor (suc zero) (suc (suc y)) hx hy = absurd (omega arith)
polynomial_xor (suc (suc x)) y hx hy = absurd (omega arith)

pub linear : (a b : ℕ) → shifted (bit_xor a b) ≡ bit_xor (shifted a) (shifted b)
unfolding shifted
linear a b =
    ap₂ (λ x y. bit_xor x (y * 0xA001)) (xor_shr a b 1) (xor_mod a b 1)
    ∙ ap (bit_xor (bit_xor (a / 2) (b / 2))) (polynomial_xor (a % 2) (b % 2) (omega arith) (omega arith))
    ∙ xor_middle (a / 2) (b / 2) (a % 2 * 0xA001) (b % 2 * 0xA001)

pub shifted-lt : (a : ℕ) → a < 2 ^ 16 → shifted a < 2 ^ 16
unfolding shifted
shifted-lt a h = xor_lt 16 (a / 2) (a % 2 * 0xA001) (omega arith) (polynomial_lt (a % 2) (omega arith))
  where
    polynomial_lt : (x : ℕ) → x < 2 → x * 0xA001 < 2 ^ 16
    polynomial_lt x k = omega arith

-- the bit that falls out is the new highest bit
fallen_on_top : (a : ℕ) → a < 2 ^ 16 → shifted a / 2 ^ 15 ≡ a % 2
unfolding shifted
fallen_on_top a h =
    xor_shr (a / 2) (a % 2 * 0xA001) 15
    ∙ ap₂ bit_xor (half_top (a / 2) (omega arith)) (polynomial_top (a % 2) (omega arith))
  where
    half_top : (x : ℕ) → x < 2 ^ 15 → x / 2 ^ 15 ≡ 0
    half_top x k = omega arith

    polynomial_top : (x : ℕ) → x < 2 → x * 0xA001 / 2 ^ 15 ≡ x
    polynomial_top x k = omega arith

pub one_to_one : (a b : ℕ) → a < 2 ^ 16 → b < 2 ^ 16 → shifted a ≡ shifted b → a ≡ b
unfolding shifted
one_to_one a b ha hb e =
    let low : a % 2 ≡ b % 2 = sym (fallen_on_top a ha) ∙ ap (λ x. x / 2 ^ 15) e ∙ fallen_on_top b hb in
    let high : a / 2 ≡ b / 2 = xor_cancel (a / 2) (b / 2) (b % 2 * 0xA001) (ap (λ x. bit_xor (a / 2) (x * 0xA001)) (sym low) ∙ e) in
    omega arith

shifted-double : (n : ℕ) → shifted (n * 2) ≡ n
unfolding shifted
shifted-double n = ap₂ (λ x y. bit_xor x (y * 0xA001)) half even ∙ xor_zero_r n
  where
    half : n * 2 / 2 ≡ n
    half = omega arith

    even : n * 2 % 2 ≡ 0
    even = omega arith

-- ---- several shifts

unfoldable pub shifts : ℕ → ℕ → ℕ
shifts zero c = c
shifts (suc n) c = shifts n (shifted c)

pub shifts_xor : (n a b : ℕ) → shifts n (bit_xor a b) ≡ bit_xor (shifts n a) (shifts n b)
unfolding shifts
shifts_xor zero a b = refl
shifts_xor (suc n) a b = ap (shifts n) (linear a b) ∙ shifts_xor n (shifted a) (shifted b)

pub shifts_apart : (n a b : ℕ) → a < 2 ^ 16 → b < 2 ^ 16 → shifts n a ≡ shifts n b → a ≡ b
unfolding shifts
shifts_apart zero a b ha hb e = e
shifts_apart (suc n) a b ha hb e =
    one_to_one a b ha hb (shifts_apart n (shifted a) (shifted b) (shifted-lt a ha) (shifted-lt b hb) e)

-- where only zeros fall out, the register moves down
shifts_high : (n h : ℕ) → shifts n (h * 2 ^ n) ≡ h
unfolding shifts
shifts_high zero h = mul-one h
shifts_high (suc n) h =
    ap (shifts n) (ap shifted (ap (λ p. h * p) (pow-suc 2 n) ∙ sym (mul_assoc h (2 ^ n) 2)) ∙ shifted-double (h * 2 ^ n))
    ∙ shifts_high n h

-- ---- bits that are fed

pub fed_all-++ : (c : ℕ) (u v : List Bool) → fed_all c (u ++ v) ≡ fed_all (fed_all c u) v
fed_all-++ c [] v = refl
fed_all-++ c (b ∷ u) v = fed_all-++ (fed c b) u v

put_lt : (c : ℕ) (b : Bool) → c < 2 ^ 16 → bit_xor c (bit b) < 2 ^ 16
put_lt c b h = xor_lt 16 c (bit b) h (omega (arith, bit-lt b))

pub fed-lt : (c : ℕ) (b : Bool) → c < 2 ^ 16 → fed c b < 2 ^ 16
fed-lt c b h = shifted-lt (bit_xor c (bit b)) (put_lt c b h)

pub fed_all-lt : (c : ℕ) (bs : List Bool) → c < 2 ^ 16 → fed_all c bs < 2 ^ 16
fed_all-lt c [] h = h
fed_all-lt c (b ∷ bs) h = fed_all-lt (fed c b) bs (fed-lt c b h)

-- from two registers the same bits lead to two registers
pub fed_all-apart : (c d : ℕ) (bs : List Bool) → c < 2 ^ 16 → d < 2 ^ 16 → fed_all c bs ≡ fed_all d bs → c ≡ d
fed_all-apart c d [] hc hd e = e
fed_all-apart c d (b ∷ bs) hc hd e =
    xor_cancel c d (bit b)
    (one_to_one (bit_xor c (bit b)) (bit_xor d (bit b)) (put_lt c b hc) (put_lt d b hd)
    (fed_all-apart (fed c b) (fed d b) bs (fed-lt c b hc) (fed-lt d b hd) e))

-- bits that are fed one by one do what their number does, put over the register at once
pub all_at_once : (c : ℕ) (bs : List Bool) → fed_all c bs ≡ shifts (length bs) (bit_xor c (number bs))
unfolding shifts number
all_at_once c [] = sym (xor_zero_r c)
all_at_once c (b ∷ bs) = all_at_once (fed c b) bs ∙ ap (shifts (length bs)) (sym (first_apart (number bs)))
  where
    lowest_apart : (n : ℕ) → bit_xor c (n * 2 + bit b) ≡ bit_xor (bit_xor c (bit b)) (n * 2)
    lowest_apart n =
        ap (bit_xor c) (sym (xor_shifted n 1 (bit b) (bit-lt b)) ∙ xor_comm (n * 2) (bit b))
        ∙ sym (xor_assoc c (bit b) (n * 2))

    first_apart : (n : ℕ) → shifted (bit_xor c (n * 2 + bit b)) ≡ bit_xor (fed c b) n
    first_apart n =
        ap shifted (lowest_apart n)
        ∙ linear (bit_xor c (bit b)) (n * 2)
        ∙ ap (bit_xor (fed c b)) (shifted-double n)

-- the same of the bits of a number
pub whole : (n c x : ℕ) → x < 2 ^ n → fed_all c (bits n x) ≡ shifts n (bit_xor c x)
whole n c x h = all_at_once c (bits n x) ∙ ap₂ (λ m y. shifts m (bit_xor c y)) (length-bits n x) (number-bits n x h)

-- ---- a byte that is fed: the high byte moves down, and what the low byte makes is put over it

byte_apart : (c x : ℕ) → shifts 8 (bit_xor c x) ≡ bit_xor (c / 256) (shifts 8 (bit_xor (c % 256) x))
byte_apart c x =
    let high = c / 256 * 256 in
    ap (shifts 8)
    (ap (λ y. bit_xor y x) (sym (split c 8) ∙ sym (xor_shifted (c / 256) 8 (c % 256) (omega arith)))
    ∙ xor_assoc high (c % 256) x)
    ∙ shifts_xor 8 high (bit_xor (c % 256) x)
    ∙ ap (λ y. bit_xor y (shifts 8 (bit_xor (c % 256) x))) (shifts_high 8 (c / 256))

pub fed-byte : (c x : ℕ) → x < 256 → fed_all c (bits 8 x) ≡ bit_xor (c / 256) (shifts 8 (bit_xor (c % 256) x))
fed-byte c x h = whole 8 c x h ∙ byte_apart c x
