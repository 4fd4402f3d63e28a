use Rattle.std.proofs.Common.{◌≡◌, ℕ, ◌<◌, false}
use Rattle.model.specs.Calls.{later}
use Rattle.model.specs.Operations.{at}
use Rattle.model.specs.RegisterRule.{interrupts}
use Rattle.controller.specs.View.{nodes}
use Rattle.line.proofs.clock.run.Given as goal

-- so many bit times were made, and INT_N was low before none of them
abbrev pub invariant-loop-made : goal.invariant-loop-made
invariant-loop-made l = record {
  table : nodes l.table ≡ later l.made (nodes l.initial.table);
  high : (m : ℕ) → m < l.made → interrupts (at (later m (nodes l.initial.table)) l.controller) ≡ false;
}
