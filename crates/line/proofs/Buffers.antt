-- The caller's buffer after an operation.
use Rattle.std.proofs.Common.{◌≡◌, ℕ, Bool, true, false, cond, eqb, List, [], ◌++◌, take, drop, sym, ap, ◌∙◌, add-zero}
use Rattle.std.proofs.lemmas.List.{append-nil, take-append-drop}
use Rattle.model.specs.Controller.{Table}
use Rattle.model.specs.Operations.{Operation, refusal, accepted, refused, result, put_into, place_of, bytes_given, buffer_after}

put_none : (buffer : List ℕ) (place : ℕ) → put_into buffer place [] ≡ buffer
unfolding put_into
put_none buffer place =
    ap (λ n. take place buffer ++ [] ++ drop n buffer) (add-zero place)
    ∙ ap (λ (xs : List ℕ). xs ++ drop place buffer) (append-nil (take place buffer))
    ∙ take-append-drop place buffer

-- bytes are put into it, or none
pub buffer_either : (o : Operation) (t : Table) (buffer after xs : List ℕ) (n : ℕ) → after ≡ cond (eqb n 0) (put_into buffer (place_of o) xs) buffer → n ≡ refusal o t
    → xs ≡ bytes_given (result o t) → after ≡ buffer_after o t buffer
unfolding buffer_after accepted
buffer_either o t buffer after xs n is same gives =
    let number = refusal o t in
    is ∙ ap (λ m. cond (eqb m 0) (put_into buffer (place_of o) xs) buffer) same ∙ either (eqb number 0)
  where
    either : (b : Bool) → cond b (put_into buffer (place_of o) xs) buffer ≡ put_into buffer (place_of o) (bytes_given (cond b (result o t) (refused (refusal o t))))
    either true = ap (put_into buffer (place_of o)) gives
    either false = sym (put_none buffer (place_of o))

pub buffer_kept : (o : Operation) (t : Table) (buffer : List ℕ) → accepted o t ≡ false → buffer ≡ buffer_after o t buffer
unfolding buffer_after
buffer_kept o t buffer isnt =
    sym (ap (λ b. put_into buffer (place_of o) (bytes_given (cond b (result o t) (refused (refusal o t))))) isnt ∙ put_none buffer (place_of o))
