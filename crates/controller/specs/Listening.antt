-- What a receiver makes of a level, by itself and the stored registers.
use Rattle.std.specs.Prelude.{Bool, cond, nat_le, nat_lt}
use Rattle.model.specs.Reading.{reads, opened}
use Rattle.model.specs.Controller.{Settings, Receiver}
use Rattle.model.specs.BitTime.{with_reading, times_out, follows}

-- one that was idle hunts, by now at the latest, and starts a frame at a 0; one that was not reads on
abbrev pub hears : Bool → Settings → Receiver → Receiver
hears level s r =
    cond (nat_le s.idle_wait r.ones) (with_reading (opened level) (times_out s r.reading r)) (follows s (reads level r.reading) r)

-- a page was made ready
abbrev pub makes_ready : (before after : Receiver) → Bool
makes_ready before after = nat_lt before.ring.ready after.ring.ready
