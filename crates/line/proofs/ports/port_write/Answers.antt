use Rattle.std.proofs.Common.{sym, ◌∙◌, arith}
use Rattle.std.proofs.lemmas.Grind.{common_steps}
use Rattle.controller.specs.Bursts.{after_write}
use Rattle.controller.specs.View.{node}
use Rattle.model.specs.Controller.{new}
use Rattle.model.specs.Operations.{refusal, accepted, then, done}
use Rattle.model.proofs.Loading.{all_loaded}
use Rattle.model.specs.RegisterRule.{writes_all}
use Rattle.model.specs.Registers.{register_of}
use Rattle.line.proofs.Views.{changed_or_not}
use Rattle.line.proofs.ports.port_write.Goals as goal

pub returns-in_err-check_controller-clause-loads : goal.returns-in_err-check_controller-clause-loads
returns-in_err-check_controller-clause-loads c = all_loaded

pub returns-clause-refuses : goal.returns-clause-refuses
unfolding refusal
returns-clause-refuses c = grind (arith, common_steps)

pub returns-clause-after : goal.returns-clause-after
unfolding after_write accepted then done
returns-clause-after c =
    changed_or_not node new (writes_all (register_of c.args.register) c.args.bytes.now) c.args.table.now c.args.controller _ _ _ c.write.new.self
    c.in_ok-check_controller.ensures.1 c.write.ensures.after (sym c.write.ensures.refuses ∙ returns-clause-refuses c)

pub returns-clause-loads : goal.returns-clause-loads
returns-clause-loads c = all_loaded
