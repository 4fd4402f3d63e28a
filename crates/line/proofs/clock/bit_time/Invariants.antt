use Rattle.std.proofs.Common.{◌≡◌}
use Rattle.controller.specs.View.{node, nodes}
use Rattle.controller.specs.Marks.{marked}
use Rattle.model.specs.BitTime.{ticked, marks}
use Rattle.line.specs.Answer.{marks_of}
use Rattle.line.proofs.Views.{Moved}
use Rattle.line.proofs.clock.bit_time.Given as goal

abbrev pub invariant-loop-number : goal.invariant-loop-number
invariant-loop-number l = record {
  level : l.answer.level ≡ l.level;
  moved : Moved node marked (ticked l.level) (marks l.level) (nodes l.initial.table) l.number l.table (marks_of l.answer);
  counted : l.answer.controllers ≡ l.number;
}
