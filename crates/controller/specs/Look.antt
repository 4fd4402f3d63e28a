-- A look at the read page of one controller: the caller's buffer, filled byte after byte.
use Rattle.std.specs.Prelude.{ℕ, ◌-◌, min, Bool, cond, not, List, [], ◌∷◌, length, take, drop, ◌==◌}
use Rattle.model.specs.Controller.{page_size, PageRing, read_page}
use Rattle.model.specs.RegisterRule.{is_ready}
use Rattle.model.specs.Operations.{first_of, put_into}

-- 9: no page ready
abbrev pub refuses_page : PageRing → List (Bool × ℕ)
refuses_page g = (not (is_ready g), 9) ∷ []

-- the bytes of the read page from a place on, until a buffer of so many places is full or place 255 was read
unfoldable pub page_from : (place : ℕ) → PageRing → (buffer : ℕ) → List ℕ
page_from place g buffer = take (min buffer (page_size - place)) (drop place (read_page g).bytes)

-- the buffer after a look, in the words of the rules
unfoldable pub buffer_seen : (place : ℕ) → PageRing → List ℕ → List ℕ
buffer_seen place g found = cond (first_of (refuses_page g) == 0) (put_into found 0 (page_from place g (length found))) found
