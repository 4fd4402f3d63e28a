-- Each worked example holds.
use Rattle.std.proofs.Common.{◌≡◌, ℕ, ◌+◌, ◌*◌, Bool, true, false, cond, not, ◌&&◌, ltb, leb, List, length, drop, refl, ap, ◌∙◌, arith}
use borrow.Author.Tests.{lt-leb}
use Rattle.model.specs.Bits.{number, has, reversed}
use Rattle.model.specs.Crc.{shifted}
use Rattle.model.specs.Frames.{length_byte, Message, frame_levels}
use Rattle.model.specs.Controller.{new, read_page}
use Rattle.model.specs.RegisterRule.{starts_too_long, gives_all, leaves_all, tx_control, writes_all, idle}
use Rattle.model.specs.BitTime.{begins, begun, counts, draws_back, drives, end_broken, end_right, filled, finishes, follows, gives_up, in_last, in_source, line_level, listens, marks, next_level, noticed, page_of, ticked, times_out, transmits, wanted}
use Rattle.model.specs.Operations.{at, refusal, accepted, done, then}
use Rattle.model.specs.Reading.{crc_right}
use Rattle.model.specs.Wires.{spi, i2c}
use Rattle.model.specs.Calls.{new_table}
use Rattle.model.specs.WorkedExamples.{start_gets, Holds, worked_examples, Every}
use Rattle.model.proofs.Arbitration.{lower_keeps_line}
use Rattle.model.proofs.Levels.{length-frame}

levels-of : (l n : ℕ) → 10 * (l + 5) ≡ n → (xs : List ℕ) → Message xs → length_byte xs ≡ l → length (frame_levels xs) ≡ n
levels-of l n e xs m is = length-frame xs m ∙ ap (λ k. 10 * (k + 5)) is ∙ e

-- a START to a controller without a waiting page is refused by its length byte alone
start : (l n : ℕ) → cond (ltb 253 l) 6 0 ≡ n → Holds (start_gets l n)
unfolding refusal has
start l n e t k size in_table none is =
    let tx = (at t k).tx in
    let bad-length : Bool → ℕ = λ b. cond (not (not b)) 6 0 in
    ap (λ b. cond (not b) 1 (cond (leb (length t) k) 2 (bad-length (starts_too_long 2 tx)))) size
    ∙ ap (λ b. cond b 2 (bad-length (starts_too_long 2 tx))) (lt-leb (length t) k in_table)
    ∙ ap (λ b. bad-length (b && ltb 253 (length_byte tx.written))) none
    ∙ ap (λ x. bad-length (ltb 253 x)) is
    ∙ twice (ltb 253 l) ∙ e
  where
    twice : (b : Bool) → cond {A = ℕ} (not (not b)) 6 0 ≡ cond b 6 0
    twice true = refl
    twice false = refl

-- the histories and the transfers, computed
computed : Every Holds (drop 8 worked_examples)
unfolding accepted begins begun counts crc_right done draws_back drives end_broken end_right filled finishes follows gives_all gives_up has i2c idle in_last in_source leaves_all line_level listens marks new new_table next_level noticed number page_of read_page refusal shifted spi then ticked times_out transmits tx_control wanted writes_all
computed = (refl, (refl, (refl, (refl, (refl, (refl, (refl, tt)))))))

pub all_hold : Every Holds worked_examples
unfolding shifted reversed number
all_hold =
    ((refl, refl), ((refl, refl, omega arith, lower_keeps_line 0x0C 0x0D (omega arith)), (levels-of 0 50 refl, (levels-of 253 2580 refl, (start 253 0 refl, (start 254 6 refl, (refl, (refl, computed))))))))
