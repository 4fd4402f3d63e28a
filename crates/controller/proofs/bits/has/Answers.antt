use Rattle.std.proofs.Common.{◌≡◌, ℕ, ◌^◌, not, eqb, ap, ◌∙◌, arith}
use lib.Bits.{bit_and}
use Rattle.std.proofs.lemmas.Bool.Decides.{nat_tests}
use Rattle.std.proofs.lemmas.Nat.Bits.{and_pow}
use Rattle.model.specs.Bits.{has}
use Rattle.controller.specs.Bits.{bit_of}
use Rattle.controller.proofs.bits.has.Goals as goal

shares : (v i : ℕ) → not (eqb (bit_and v (2 ^ i)) 0) ≡ has v i
unfolding has
shares v i = let left = and_pow v i in grind (arith, nat_tests)

pub returns : goal.returns
returns c = ap (λ m. not (eqb (bit_and c.args.value m) 0)) c.requires ∙ shares c.args.value (bit_of c.args.mask)
