use Rattle.std.proofs.Common.{◌≡◌, ◌++◌, drop}
use Rattle.model.specs.Registers.{register_of}
use Rattle.model.specs.RegisterRule.{gives_all, leaves_all}
use Rattle.controller.specs.Register.{place}
use Rattle.controller.specs.View.{node}
use Rattle.controller.proofs.chip.Controller.read_all.Given as goal

-- the first bytes are read, and the others are as found
abbrev pub invariant-loop-byte : goal.invariant-loop-byte
invariant-loop-byte l =
    (l.part ≡ gives_all (register_of (place l.register)) l.byte-index (node l.initial.self) ++ drop l.byte-index l.initial.part)
    × (node l.self ≡ leaves_all (register_of (place l.register)) l.byte-index (node l.initial.self))
