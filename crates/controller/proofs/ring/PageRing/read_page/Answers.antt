use Rattle.std.proofs.Common.{ℕ, [], get_or, sym, ap, ◌∙◌, arith}
use Rattle.std.proofs.lemmas.List.{get_or-map}
use Rattle.model.specs.Controller.{empty_page, read_page}
use Rattle.controller.specs.declared.page.RxPage.{RxPage}
use Rattle.controller.specs.Ring.{page_of}
use Rattle.controller.proofs.ring.PageRing.read_page.Goals as goal

pub returns : goal.returns
unfolding read_page
returns c =
    let g = c.args.self.now in
    let zero : RxPage = record { bytes = []; flag = 0 } in
    ap (λ (i : ℕ). page_of (get_or g.pages i zero)) c.from.ensures
    ∙ sym (get_or-map page_of g.pages g.«read» zero empty_page (omega arith))
