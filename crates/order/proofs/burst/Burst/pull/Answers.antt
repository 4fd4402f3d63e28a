use Rattle.std.proofs.Common.{◌≡◌, IfOk, subst}
use Rattle.order.specs.Burst.{pulls}
use Rattle.order.proofs.Pulls.{pulled_places}
use Rattle.order.proofs.burst.Burst.pull.Goals as goal

pub returns : goal.returns
returns c =
    subst (λ ls. IfOk c.pull_each.result (λ v. v.items ≡ ls)) (pulled_places c.args.levels.now (pulls c.args.self.now)) c.pull_each.ensures
