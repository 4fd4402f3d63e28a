use Rattle.std.proofs.Common.{rules, ◌≡◌, ◌∙◌}
use Rattle.std.specs.List.{fold}
use Rattle.model.specs.Bits.{bits}
use Rattle.model.specs.Crc.{fed_all}
use Rattle.frame.proofs.Fed.{fold_feeds}
use Rattle.frame.proofs.checksum.after_bytes.Goals as goal

pub returns : goal.returns
returns c =
    let r = c.args.register in
    let xs = c.args.bytes.now in
    let fed : c.fold.result ≡ fold (λ r x. fed_all r (bits 8 x)) r xs = search rules in
    fed ∙ fold_feeds r xs
