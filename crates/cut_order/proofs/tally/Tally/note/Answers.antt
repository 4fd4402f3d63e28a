use Rattle.std.proofs.Common.{sym, ◌∙◌, subst}
use Rattle.std.proofs.lemmas.Slice.Eq.{starts_is}
use Rattle.std.proofs.lemmas.Bool.{false≢true}
use Rattle.std.proofs.lemmas.Bool.Decides.{Decides-eqb}
use Rattle.order.specs.Delivery.{NeverOther}
use Rattle.cut_order.proofs.tally.Tally.note.Goals as goal

-- what reads as right begins with the message
pub returns-else-starts_with : goal.returns-else-starts_with
returns-else-starts_with c =
    let m = c.args.message.now in
    let is = subst (NeverOther m) c.in-Some.is c.requires c.in-Right.is in
    let begins = (starts_is Decides-eqb c.as_slice.result.now m c.starts_with.result c.starts_with.ensures.value).1 _ (c.as_slice.ensures.value ∙ is) in
    absurd (false≢true (sym c.if-starts_with.false ∙ begins))
