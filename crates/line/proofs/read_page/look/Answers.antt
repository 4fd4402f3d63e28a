use Rattle.std.proofs.lemmas.List.{get_or-map}
use Rattle.model.specs.Calls.{look_count, looked}
use Rattle.model.specs.Controller.{new}
use Rattle.controller.specs.Look.{page_from}
use Rattle.controller.specs.View.{node}
use Rattle.std.proofs.Math.Seq.{map-set_same}
use Rattle.line.proofs.read_page.look.Goals as goal

pub returns-clause-after : goal.returns-clause-after
returns-clause-after c = map-set_same node c.args.table.now c.args.controller c.look.new.self _ c.look.ensures.after

pub returns-clause-count : goal.returns-clause-count
unfolding page_from look_count looked
returns-clause-count c =
    rw (get_or-map node c.args.table.now c.args.controller c.index-table-controller.result new c.in_ok-check_controller.ensures.1) c.look.ensures.count
