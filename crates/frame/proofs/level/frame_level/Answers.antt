use Rattle.std.proofs.Common.{◌≡◌, ◌+◌, ◌*◌, ◌/◌, ◌%◌, true, [], ◌∷◌, get_or, sym, ap, ◌∙◌, arith}
use Rattle.model.specs.Frames.{framed}
use Rattle.model.specs.Levels.{levels}
use Rattle.model.proofs.Levels.{level_at, level_behind}
use Rattle.frame.proofs.level.frame_level.Goals as goal

pub returns-in-Some : goal.returns-in-Some
returns-in-Some c =
    let xs = framed c.args.message.now in
    let p = c.args.place in
    let here : p ≡ 10 * (p / 10) + p % 10 = omega arith in
    let found = c.in-Some.ensures in
    c.byte_level.ensures
    ∙ ap (λ x. get_or (levels (x ∷ [])) (p % 10) true) found.1
    ∙ sym (level_at xs (p / 10) (p % 10) (omega arith) found.0)
    ∙ ap (λ n. get_or (levels xs) n true) (sym here)

pub returns-in-None : goal.returns-in-None
returns-in-None c =
    let xs = framed c.args.message.now in
    let past = c.in-None.ensures in
    sym (level_behind xs c.args.place (omega arith))
