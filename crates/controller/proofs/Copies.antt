-- A loop that writes a list over another, place by place.
use Rattle.std.proofs.Common.{◌≡◌, ℕ, ◌+◌, ◌<◌, List, ◌++◌, length, get_or, take, drop, set, ap, ◌∙◌, zero-add, arith}
use Rattle.std.proofs.lemmas.List.Edits.{paste_more}

-- the first n places are written, and one more is
pub copy_more : {X : Type 0} (old new : List X) (n : ℕ) (v d : X) → n < length old → n < length new → v ≡ get_or new n d
    → set (take n new ++ drop n old) n v ≡ take (n + 1) new ++ drop (n + 1) old
copy_more old new n v d h k e = ap (set (take n new ++ drop n old) n) e ∙ simp zero-add at (paste_more old 0 new n d (omega arith) k)
