use Rattle.std.proofs.Common.{◌≡◌, ◌++◌, take, vec_items}
use Rattle.std.specs.List.{flat_map}
use Rattle.order.specs.Order.{line_bytes}
use Rattle.order.proofs.cut.push_lines.Given as goal

abbrev pub invariant-loop-line : goal.invariant-loop-line
invariant-loop-line l = vec_items l.bytes ≡ vec_items l.initial.bytes ++ flat_map line_bytes (take l.line-index l.lines)
