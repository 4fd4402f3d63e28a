-- A transmitter of the code as the rules have it.
use Rattle.model.specs.Controller.{TransmitState as ModelState, free, waiting, sending, Transmitter as ModelTransmitter}
use Rattle.controller.specs.declared.transmitter.TransmitState.{TransmitState}
use Rattle.controller.specs.declared.transmitter.TransmitState.TheVariants.{Free, Waiting, Sending}
use Rattle.controller.specs.declared.transmitter.Transmitter.{Transmitter}

-- what the transmitter does
abbrev pub state_of : TransmitState → ModelState
state_of Free = free
state_of Waiting = waiting
state_of (Sending n) = sending n

-- all of it, as the rules have it
abbrev pub transmitter : Transmitter → ModelTransmitter
transmitter t = record {
  written = t.written;
  other = t.other;
  pointer = t.pointer.place;
  state = state_of t.state;
  conflicts = t.conflicts;
  tx_cd = t.tx_cd;
  tx_error = t.tx_error;
}
