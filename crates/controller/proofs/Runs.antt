-- Bursts of register bytes, one byte more.
use Rattle.std.proofs.Common.{◌≡◌, ℕ, ◌+◌, ◌<◌, List, [], ◌++◌, length, get_or, drop, set, refl}
use Rattle.std.proofs.lemmas.List.{append_assoc, drop_all, drop_more, set_at}
use Rattle.model.specs.Registers.{Register}
use Rattle.model.specs.Controller.{Controller}
use Rattle.model.specs.RegisterRule.{gives, gives_all, leaves_all}
use Rattle.model.proofs.Bursts.{writes_all-none, writes_all-next, length-gives_all, leaves_all-more, gives_all-more}

pub ruleset write_steps = (writes_all-none, writes_all-next, drop_all)

pub gives_all-none : (r : Register) (c : Controller) → gives_all r 0 c ≡ []
unfolding gives_all
gives_all-none r c = refl

pub leaves_all-none : (r : Register) (c : Controller) → leaves_all r 0 c ≡ c
unfolding leaves_all
leaves_all-none r c = refl

-- the byte at i is read next
pub set-gives_all : (r : Register) (c : Controller) (part : List ℕ) (i : ℕ) → i < length part
    → set (gives_all r i c ++ drop i part) i (gives r (leaves_all r i c)) ≡ gives_all r (i + 1) c ++ drop (i + 1) part
set-gives_all r c part i lt =
    let given = gives_all r i c in
    let rest = drop (i + 1) part in
    rw (drop_more part i 0 lt, gives_all-more, append_assoc) (set_at given (get_or part i 0) rest (gives r (leaves_all r i c)) i (length-gives_all r i c))

pub ruleset read_steps = (gives_all-none, leaves_all-none, set-gives_all, leaves_all-more, length-gives_all)
