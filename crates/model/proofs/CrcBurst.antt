-- A change within 16 bits in a row is noticed.
use Rattle.std.proofs.Common.{◌≡◌, ℕ, ◌^◌, ◌<◌, ◌≤◌, Bool, List, ◌++◌, length, sym, ap, ◌∙◌, lt_of_lt_of_le, arith, pow_mono}
use lib.Bits.{bit_xor, xor_comm, xor_lt}
use Rattle.model.specs.Bits.{number}
use Rattle.model.specs.Crc.{fed_all}
use Rattle.model.proofs.Bits.{number_lt, number-apart}
use Rattle.model.proofs.CrcRegister.{shifts, shifts_apart, xor_cancel, all_at_once, fed_all-++, fed_all-lt, fed_all-apart}

number_small : (bs : List Bool) → length bs ≤ 16 → number bs < 2 ^ 16
number_small bs h = lt_of_lt_of_le (number_lt bs) (pow_mono h)

-- from one register, two windows of at most 16 bits that lead to the same register are the same
window : (c : ℕ) → c < 2 ^ 16 → (u v : List Bool) → length u ≤ 16 → length v ≡ length u → fed_all c v ≡ fed_all c u → v ≡ u
window c hc u v small same e =
    number-apart v u same
    (xor_cancel (number v) (number u) c
    (xor_comm (number v) c ∙ shifts_apart (length u) (bit_xor c (number v)) (bit_xor c (number u))
    (xor_lt 16 c (number v) hc (number_small v (omega arith))) (xor_lt 16 c (number u) hc (number_small u small))
    (ap (λ n. shifts n (bit_xor c (number v))) (sym same) ∙ sym (all_at_once c v) ∙ e ∙ all_at_once c u)
    ∙ xor_comm c (number u)))

-- lists of bits that differ only within 16 in a row, and that lead to the same register, are the same there
pub same_window : (c : ℕ) → c < 2 ^ 16 → (before u v after : List Bool)
    → length u ≤ 16 → length v ≡ length u
    → fed_all c (before ++ v ++ after) ≡ fed_all c (before ++ u ++ after) → v ≡ u
same_window c hc before u v after small same e =
    let d = fed_all c before in
    let hd : d < 2 ^ 16 = fed_all-lt c before hc in
    window d hd u v small same
    (fed_all-apart (fed_all d v) (fed_all d u) after (fed_all-lt d v hd) (fed_all-lt d u hd)
    (sym (three v) ∙ e ∙ three u))
  where
    three : (w : List Bool) → fed_all c (before ++ w ++ after) ≡ fed_all (fed_all (fed_all c before) w) after
    three w = fed_all-++ c (before ++ w) after ∙ ap (λ x. fed_all x after) (fed_all-++ c before w)
