use Rattle.std.proofs.Common.{◌≡◌, drop}
use Rattle.model.specs.Registers.{register_of}
use Rattle.model.specs.RegisterRule.{writes_all}
use Rattle.controller.specs.Register.{place}
use Rattle.controller.specs.View.{node}
use Rattle.controller.proofs.chip.Controller.write_all.Given as goal

-- what is left to write leads where all leads
abbrev pub invariant-loop-byte : goal.invariant-loop-byte
invariant-loop-byte l =
    writes_all (register_of (place l.register)) (drop l.byte-index l.bytes) (node l.self)
    ≡ writes_all (register_of (place l.register)) l.bytes (node l.initial.self)
