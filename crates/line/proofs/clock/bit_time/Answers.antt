use Rattle.std.proofs.Common.{rules, arith}
use Rattle.std.proofs.lemmas.List.{length-map}
use Rattle.controller.specs.View.{node}
use Rattle.line.proofs.Views.{moved_more}
use Rattle.line.proofs.clock.bit_time.Goals as goal

pub loop-number-preserved : goal.loop-number-preserved
loop-number-preserved c =
    let length-nodes = length-map c.args.table.now node in
    record {
      level = search rules;
      moved = moved_more c.index-table-number.result c.tick.new.self c.tick.result _ c.loop-number.invariant.moved
          (omega (arith, length-nodes)) (omega (arith, length-nodes)) c.tick.ensures.after c.tick.ensures.marks c.push.ensures.marks;
      counted = omega (arith, c.push.ensures.controllers, c.loop-number.invariant.counted);
    }
