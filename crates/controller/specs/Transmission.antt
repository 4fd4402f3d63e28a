-- What the code says of the page that is being sent.
use Rattle.std.specs.Prelude.{Bool, true, false, Option, Some, None}
use Rattle.controller.specs.declared.transmitter.transmit.Transmission.{Transmission}
use Rattle.controller.specs.declared.transmitter.transmit.Transmission.TheVariants.{DrewBack, GaveUp, Sent}

-- its sender drew back
abbrev pub is_drawn_back : Option Transmission → Bool
is_drawn_back None = false
is_drawn_back (Some DrewBack) = true
is_drawn_back (Some GaveUp) = true
is_drawn_back (Some Sent) = false

-- for the last time
abbrev pub is_given_up : Option Transmission → Bool
is_given_up None = false
is_given_up (Some DrewBack) = false
is_given_up (Some GaveUp) = true
is_given_up (Some Sent) = false

-- it was sent
abbrev pub is_sent : Option Transmission → Bool
is_sent None = false
is_sent (Some DrewBack) = false
is_sent (Some GaveUp) = false
is_sent (Some Sent) = true
