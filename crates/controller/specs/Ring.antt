-- The RX pages of the code as the rules have them.
use Rattle.std.specs.Prelude.{map}
use Rattle.model.specs.Controller.{Page, PageRing as ModelRing}
use Rattle.controller.specs.declared.page.RxPage.{RxPage}
use Rattle.controller.specs.declared.ring.PageRing.{PageRing}

-- a page
abbrev pub page_of : RxPage → Page
page_of p = record { bytes = p.bytes; flag = p.flag }

-- the ring of them
abbrev pub page_ring : PageRing → ModelRing
page_ring g = record { pages = map page_of g.pages; read = g.«read»; ready = g.ready }
