-- Histories one after the other.
use Rattle.std.proofs.Common.{◌≡◌, List, [], ◌∷◌, ◌++◌, refl}
use Rattle.model.specs.Controller.{Table}
use Rattle.model.specs.Operations.{Operation, then}
use Rattle.model.specs.Histories.{after_all, Along}

pub after_all-++ : (os ps : List Operation) (t : Table) → after_all (os ++ ps) t ≡ after_all ps (after_all os t)
after_all-++ [] ps t = refl
after_all-++ (o ∷ os) ps t = after_all-++ os ps (then o t)

pub along-++ : (P : Operation → Table → Type 0) (os ps : List Operation) (t : Table) → Along P os t → Along P ps (after_all os t) → Along P (os ++ ps) t
along-++ P [] ps t all more = more
along-++ P (o ∷ os) ps t all more = (all.0, along-++ P os ps (then o t) all.1 more)
