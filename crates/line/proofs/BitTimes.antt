-- Many bit times of a table.
use Rattle.std.proofs.Common.{◌≡◌, ℕ, zero, suc, ◌+◌, ◌<◌, Bool, false, List, length, get_or, sym, refl, ap, ◌∙◌, add-one}
use Rattle.std.proofs.lemmas.List.{get_or-map}
use Rattle.model.specs.Controller.{Table, new}
use Rattle.model.specs.Operations.{bit_time, at, done}
use Rattle.model.specs.Calls.{later}
use Rattle.model.specs.RegisterRule.{interrupts}
use Rattle.controller.specs.declared.chip.Controller.{Controller}
use Rattle.controller.specs.View.{node, nodes}

-- one bit time more
pub later_more : (n : ℕ) (t : Table) → later (n + 1) t ≡ done (bit_time false) (later n t)
later_more n t = ap (λ m. later m t) (add-one n) ∙ on n t
  where
    on : (k : ℕ) (u : Table) → later (suc k) u ≡ done (bit_time false) (later k u)
    on zero u = refl
    on (suc k) u = on k (done (bit_time false) u)

-- INT_N of a controller after so many of them, by the table of the code
pub int_n_later : (cs : List Controller) (t : Table) (k n : ℕ) (d : Controller) (b : Bool) → k < length cs → nodes cs ≡ later n t
    → b ≡ interrupts (node (get_or cs k d)) → interrupts (at (later n t) k) ≡ b
int_n_later cs t k n d b lt is low = ap (λ u. interrupts (at u k)) (sym is) ∙ ap interrupts (get_or-map node cs k d new lt) ∙ sym low
