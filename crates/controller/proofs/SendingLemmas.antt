-- A sender stands at a level of its frame.
use Rattle.std.proofs.Common.{◌≡◌, ℕ, ◌+◌, ◌≢◌, true, ltb, List, arith}
use Rattle.std.proofs.lemmas.Bool.{ltb-true}
use Rattle.std.proofs.lemmas.Bool.Decides.{nat_tests}
use Rattle.model.specs.Frames.{message}
use Rattle.model.proofs.Levels.{length_frame_levels}
use Rattle.controller.specs.Sending.{frame_size}

-- a frame has a first level
pub first_level : (page : List ℕ) → ltb 0 (frame_size page) ≡ true
unfolding frame_size
first_level page = let long = length_frame_levels (message page) in grind (arith, nat_tests)

-- one level further, if the last is not driven yet
pub next_within : (page : List ℕ) (n last : ℕ) → ltb n (frame_size page) ≡ true → last + 1 ≡ frame_size page → n ≢ last → ltb (n + 1) (frame_size page) ≡ true
next_within page n last here is more = let lt = ltb-true n (frame_size page) here in grind (arith, nat_tests)
