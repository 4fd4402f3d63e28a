-- A cut order as the data bytes of a message. Numbers stand low byte first.
use Rattle.std.specs.Prelude.{ℕ, ◌/◌, ◌%◌, List, [], ◌∷◌, ◌++◌}
use Rattle.std.specs.List.{flat_map}
use Rattle.order.specs.declared.cut.SizeLine.{SizeLine}
use Rattle.order.specs.declared.cut.CutOrder.{CutOrder}

-- a size line
abbrev pub line_bytes : SizeLine → List ℕ
line_bytes l = l.size ∷ l.plies % 256 ∷ l.plies / 256 % 256 ∷ l.pieces ∷ []

-- a marker's number
abbrev pub marker_bytes : ℕ → List ℕ
marker_bytes n = n % 256 ∷ n / 256 % 256 ∷ n / 65536 % 256 ∷ n / 16777216 % 256 ∷ []

-- the marker, then its size lines
abbrev pub order_bytes : CutOrder → List ℕ
order_bytes o = marker_bytes o.marker ++ flat_map line_bytes o.lines
