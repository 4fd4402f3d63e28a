use Rattle.std.proofs.Common.{◌≡◌, [], ◌∷◌, vec_items}
use Rattle.std.specs.List.{flat_map}
use Rattle.model.specs.Levels.{levels as levels_of}
use Rattle.frame.proofs.message.levels_of_frame.Given as goal

abbrev pub invariant-loop-byte : goal.invariant-loop-byte
invariant-loop-byte l = vec_items l.levels ≡ flat_map (λ byte. levels_of (byte.now ∷ [])) l.yielded
