use Rattle.std.proofs.Common.{◌≡◌, ℕ, zero, suc, ◌-◌, ◌*◌, ◌/◌, ◌^◌, ◌<◌, Bool, true, [], ◌∷◌, get_or, sym, ap, ◌∙◌, arith}
use Rattle.std.proofs.Math.Nat.{div-div-eq-div-mul, pow-suc}
use Rattle.std.proofs.lemmas.List.{get_or_append_left}
use Rattle.model.specs.Bits.{bits, odd}
use Rattle.model.specs.Levels.{levels}
use Rattle.frame.proofs.level.byte_level.Goals as goal

bit_at : (n x i : ℕ) (d : Bool) → i < n → get_or (bits n x) i d ≡ odd (x / 2 ^ i)
bit_at zero x i d lt = absurd (omega arith)
bit_at (suc n) x zero d lt = ap odd (let e : x ≡ x / 1 = omega arith in e)
bit_at (suc n) x (suc i) d lt =
    let double : 2 * 2 ^ i ≡ 2 ^ suc i = omega (arith, pow-suc 2 i) in
    bit_at n (x / 2) i d (omega arith) ∙ ap odd (div-div-eq-div-mul x 2 (2 ^ i) ∙ ap (λ k. x / k) double)

-- bit i of a byte is its level i + 1
pub returns-in-1-to-8 : goal.returns-in-1-to-8
returns-in-1-to-8 c =
    let p = c.args.place in
    let x = c.args.byte in
    let i = p - 1 in
    let place : suc i ≡ p = omega arith in
    sym (bit_at 8 x i true (omega arith)) ∙ sym (get_or_append_left (bits 8 x) (true ∷ []) true i (omega arith))
    ∙ ap (λ n. get_or (levels (x ∷ [])) n true) place
