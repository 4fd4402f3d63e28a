use Rattle.std.proofs.Common.{length, ap, ◌∙◌, arith, length-drop}
use Rattle.std.proofs.lemmas.List.{take_rest}
use Rattle.model.proofs.Levels.{bytes-from}
use Rattle.frame.proofs.message.check.Goals as goal

pub returns : goal.returns
returns c =
    let xs = c.args.message.now in
    let split = c.in-Some.ensures in
    let behind = ap length (split.4 ∙ take_rest xs 3) ∙ length-drop 3 xs in
    record {
      bytes = bytes-from xs (λ i. (c.type_inv.message i).fits);
      small = omega (arith, split.3, c.if-header-gt-MAX_DATA.false);
      whole = omega (arith, behind, split.0, split.3, c.if-rest-from.false, c.from.ensures);
    }
