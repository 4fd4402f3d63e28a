-- A controller of the code as the rules have it.
use Rattle.std.specs.Prelude.{List, map}
use Rattle.model.specs.Controller.{Controller as ModelController, Table}
use Rattle.controller.specs.declared.chip.Controller.{Controller}
use Rattle.controller.specs.Settings.{settings}
use Rattle.controller.specs.Transmitter.{transmitter}
use Rattle.controller.specs.Receiver.{receiver}

-- one controller
abbrev pub node : Controller → ModelController
node c = record { settings = settings c.settings; tx = transmitter c.tx; rx = receiver c.rx }

-- those on one line, by their numbers
abbrev pub nodes : List Controller → Table
nodes cs = map node cs
