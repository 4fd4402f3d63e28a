use Rattle.std.proofs.Common.{length, arith}
use Rattle.std.proofs.lemmas.Grind.{common_steps}
use Rattle.model.specs.Calls.{refuses_new, new_table, renewed}
use Rattle.controller.specs.View.{node}
use Rattle.line.proofs.Views.{map-replicate}
use Rattle.line.proofs.table.new_table.Goals as goal

pub returns-clause-after : goal.returns-clause-after
unfolding refuses_new renewed new_table
returns-clause-after c =
    grind (arith, common_steps, c.fill.ensures.after (λ y same. same), map-replicate node (length c.args.table.now) c.new.result)
