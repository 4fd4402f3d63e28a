use Rattle.std.proofs.Common.{◌≡◌, false, arith, below_more}
use Rattle.std.proofs.lemmas.Grind.{common_steps}
use Rattle.model.specs.Operations.{at, refusal, accepted, then}
use Rattle.model.specs.Calls.{later}
use Rattle.model.specs.RegisterRule.{interrupts}
use Rattle.controller.specs.View.{nodes}
use Rattle.line.proofs.BitTimes.{later_more, int_n_later}
use Rattle.line.proofs.clock.run.Goals as goal

pub loop-made-preserved : goal.loop-made-preserved
unfolding refusal accepted then
loop-made-preserved c =
    let t = nodes c.args.table.now in
    let k = c.args.controller in
    let found = c.in_ok-check_controller.ensures in
    record {
      table = grind (arith, common_steps, later_more c.loop-made.made t, c.bit_time.ensures.after, found);
      high = below_more (λ m. interrupts (at (later m t) k) ≡ false) c.loop-made.made c.loop-made.invariant.high
          (int_n_later c.loop-made.table t k c.loop-made.made c.index-table-controller.result false (omega (arith, found.1)) c.loop-made.invariant.table c.if-int_n_low.ensures);
    }
