use Rattle.std.proofs.Common.{rules, true, [], ◌∷◌}
use Rattle.std.proofs.lemmas.List.{ext_get_or}
use Rattle.model.specs.Levels.{levels}
use Rattle.frame.proofs.level.byte_levels.Goals as goal

pub returns : goal.returns
returns c =
    ext_get_or true c.from_fn.result (levels (c.args.byte ∷ [])) c.from_fn.ensures.items.long (λ i h. search rules)
