use Rattle.std.proofs.Common.{◌≡◌, ◌+◌, ◌-◌, ◌<◌, ◌≤◌, length}
use Rattle.model.specs.Controller.{page_size}
use Rattle.controller.proofs.Look.{front}
use Rattle.controller.proofs.receiver.Receiver.look.Given as goal

-- RX_ADDR stands behind the bytes that were copied
abbrev pub invariant-loop-count : goal.invariant-loop-count
invariant-loop-count l =
    (l.guard.pointer.now.place ≡ l.place + l.count)
    × (l.place + l.count < page_size)
    × (l.count ≤ length l.page - l.place)
    × (l.buffer ≡ front l.page l.place l.count l.initial.buffer)
