-- The levels of a frame with a burst in them, each by its place.
use Rattle.std.proofs.Common.{◌≡◌, ℕ, ◌+◌, ◌<◌, Bool, false, not, ◌&&◌, List, length, map, get_or, sym, ap, ◌∙◌, arith}
use lib.ListN.{length-map}
use Rattle.std.proofs.lemmas.List.{ext_get_or, get_or-map}
use Rattle.std.proofs.lemmas.List.FromFn.{get_or-enumerate_from, length-enumerate_from}
use Rattle.std.specs.List.{enumerate_from}
use Rattle.model.specs.Disturbance.{pulled_low}
use Rattle.model.proofs.Disturbance.{length-pulled, level_pulled}

pub pulled_places : (ls pulls : List Bool) → map (λ p. p.1 && not (get_or pulls p.0 false)) (enumerate_from 0 ls) ≡ pulled_low ls pulls
pulled_places ls pulls =
    let places = enumerate_from 0 ls in
    let f : ℕ × Bool → Bool = λ p. p.1 && not (get_or pulls p.0 false) in
    let long : length (map f places) ≡ length ls = length-map places f ∙ length-enumerate_from 0 ls in
    ext_get_or false (map f places) (pulled_low ls pulls) (long ∙ sym (length-pulled ls pulls))
    (λ i h.
    let lt : i < length ls = omega (arith, long) in
    let place : 0 + i ≡ i = omega arith in
    get_or-map f places i (0, false) false (omega (arith, length-enumerate_from 0 ls))
    ∙ ap f (get_or-enumerate_from 0 ls i (0, false) lt)
    ∙ ap (λ k. get_or ls i false && not (get_or pulls k false)) place
    ∙ sym (level_pulled ls pulls i))
