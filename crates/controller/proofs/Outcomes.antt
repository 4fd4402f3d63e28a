-- What a call that was refused or accepted leaves.
use Rattle.std.proofs.Common.{◌≡◌, ◌≢◌, ℕ, zero, suc, ◌+◌, ◌-◌, ◌≤◌, Bool, cond, eqb, List, [], ◌∷◌, ◌++◌, length, take, drop, IsErrAnd, Result, sym, ap, ◌∙◌, arith}
use borrow.Rule.Slice.PartMut.{put_mid, Post-is}
use Rattle.std.proofs.lemmas.Bool.Decides.{nat_tests}
use Rattle.std.proofs.lemmas.List.Edits.{length-between}
use Rattle.std.proofs.lemmas.List.{append_assoc}
use Rattle.std.proofs.lemmas.Result.{err_from_is_err_and}
use Rattle.model.specs.Controller.{Controller}
use Rattle.model.specs.Operations.{first_of, put_into}
use Rattle.model.specs.Registers.{Register}
use Rattle.model.specs.RegisterRule.{gives_all}
use Rattle.model.proofs.Bursts.{length-gives_all}
use Rattle.controller.specs.declared.refusal.Refusal.{Refusal}
use Rattle.controller.specs.Refusal.{number_of, refused_as}

-- no refusal has the number 0
some_number : (e : Refusal) → number_of e ≢ 0
some_number e none = grind arith

pub refused_leaves : {X : Type 0} (e : Refusal) (n : ℕ) (done found : X) → number_of e ≡ n → found ≡ cond (eqb n 0) done found
refused_leaves e n done found is = let some = some_number e in grind (arith, nat_tests)

pub accepted-leaves : {X : Type 0} (n : ℕ) (done found : X) → 0 ≡ n → done ≡ cond (eqb n 0) done found
accepted-leaves n done found is = ap (λ k. cond (eqb k 0) done found) is

-- the exit of a `?` gives the refusal on
pub refused_exit : {X : Type 0} (r : Result X Refusal) (e : Refusal) (n : ℕ) → IsErrAnd r (λ y. y ≡ e) → number_of e ≡ n → refused_as r ≡ n
refused_exit r e n errs is = let p = err_from_is_err_and r errs in ap refused_as p.1 ∙ ap number_of p.2 ∙ is

-- a refusal that the first n tests decide stands, whatever tests follow
pub first_decides : (e : Refusal) (n : ℕ) (tests : List (Bool × ℕ)) → number_of e ≡ first_of (take n tests) → number_of e ≡ first_of tests
first_decides e zero tests none = absurd (some_number e none)
first_decides e (suc n) [] none = absurd (some_number e none)
first_decides e (suc n) (test ∷ tests) is = grind (arith, first_decides e n tests)

-- ---- bytes read into a part of a buffer

-- the part is as long as the bytes that were read into it
pub into_part : (r : Register) (c : Controller) (buffer part : List ℕ) (place n : ℕ) → place + n ≤ length buffer
    → part ≡ gives_all r (length (take (place + n - place) (drop place buffer))) c
    → put_mid place (place + n - place) buffer part ≡ put_into buffer place (gives_all r n c)
unfolding put_into
into_part r c buffer part place n fits is =
    let long : length (take (place + n - place) (drop place buffer)) ≡ n = length-between buffer place (place + n) fits ∙ omega arith in
    let given = gives_all r n c in
    ap (put_mid place (place + n - place) buffer) (is ∙ ap (λ k. gives_all r k c) long)
    ∙ ap (λ (rest : List ℕ). take place buffer ++ (given ++ rest)) (Post-is place (place + n) buffer (omega arith) ∙ ap (λ k. drop (place + k) buffer) (sym (length-gives_all r n c)))
    ∙ sym (append_assoc (take place buffer) given (drop (place + length given) buffer))
