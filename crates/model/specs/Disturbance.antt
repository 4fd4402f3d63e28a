-- A frame's levels with a short burst of pulls to 0 from outside: they are never read as another frame.
use Rattle.std.specs.Prelude.{◌≡◌, ℕ, ◌+◌, ◌<◌, ◌≤◌, Bool, true, false, not, ◌&&◌, ◌⊎◌, List, [], ◌∷◌, slice_index_or}
use Rattle.model.specs.Frames.{Message, framed, frame_levels}
use Rattle.model.specs.Reading.{right, heard}
use Rattle.model.specs.Codec.{after_idle}

-- levels, each pulled to 0 where the second list says so; past its end none is pulled
abbrev pub pulled_low : List Bool → List Bool → List Bool
pulled_low [] pulls = []
pulled_low (l ∷ ls) [] = l ∷ ls
pulled_low (l ∷ ls) (p ∷ pulls) = (l && not p) ∷ pulled_low ls pulls

-- all pulls lie within 16 consecutive levels, and none in the ten of the length byte
pub record ShortBurst (start : ℕ) (pulls : List Bool) : Type 0 where
  pub within_16 : (k : ℕ) → slice_index_or pulls k false ≡ true → (start ≤ k) × (k < start + 16)
  pub misses_length : (k : ℕ) → slice_index_or pulls k false ≡ true → (k < 20) ⊎ (30 ≤ k)

-- what still reads as right is the frame that was sent
abbrev pub NeverAnother : Type 0
NeverAnother = (m : List ℕ) → Message m → (start : ℕ) (pulls : List Bool) → ShortBurst start pulls
    → (bytes : List ℕ) (left : ℕ) → heard after_idle (pulled_low (frame_levels m) pulls) ≡ right bytes left
    → bytes ≡ framed m
