-- Where a sender may stand: at a level of the frame that is being sent.
use Rattle.std.specs.Prelude.{ℕ, Bool, true, List, length, nat_lt}
use Rattle.model.specs.Frames.{frame_levels, message}
use Rattle.controller.specs.declared.transmitter.TransmitState.{TransmitState}
use Rattle.controller.specs.declared.transmitter.TransmitState.TheVariants.{Free, Waiting, Sending}

-- the levels of the frame that carries a page's message
unfoldable pub frame_size : List ℕ → ℕ
frame_size page = length (frame_levels (message page))

-- fewer levels are driven than the frame has
abbrev pub sends_within : TransmitState → (waiting : List ℕ) → Bool
sends_within Free page = true
sends_within Waiting page = true
sends_within (Sending n) page = nat_lt n (frame_size page)
