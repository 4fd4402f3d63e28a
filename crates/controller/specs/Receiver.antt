-- A receiver of the code as the rules have it.
use Rattle.model.specs.Controller.{Receiver as ModelReceiver}
use Rattle.frame.specs.Reader.{reading}
use Rattle.controller.specs.declared.receiver.Receiver.{Receiver}
use Rattle.controller.specs.Ring.{page_ring}

-- all of it, as the rules have it
abbrev pub receiver : Receiver → ModelReceiver
receiver r = record {
  ring = page_ring r.ring;
  address = r.pointer.place;
  rx_lost = r.rx_lost;
  rx_error = r.rx_error;
  reading = reading r.reader;
  ones = r.ones;
}
