use Rattle.std.proofs.Common.{◌≡◌}
use Rattle.cut_order.proofs.tally.every_burst.Given as goal

abbrev pub invariant-loop-burst : goal.invariant-loop-burst
invariant-loop-burst l = l.tally.other ≡ 0
