-- What a page holds that was filled.
use Rattle.std.proofs.Common.{◌≡◌, ℕ, ◌+◌, ◌≤◌, List, ◌++◌, length, take, map, set, replicate, min, inl, inr, sym, ap, ◌∙◌, ap₂, arith}
use Rattle.std.proofs.lemmas.Bool.{cases_lt}
use Rattle.std.proofs.lemmas.Grind.{common_steps}
use Rattle.std.proofs.lemmas.List.{map-set, take-replicate}
use Rattle.std.proofs.Math.Seq.{take-append-add}
use Rattle.model.specs.BitTime.{page_of as padded}
use Rattle.model.specs.Controller.{Page}
use Rattle.controller.specs.declared.page.RxPage.{RxPage}
use Rattle.controller.specs.Ring.{page_of}

-- elements as far as m go, then others
padded_short : (xs zeros : List ℕ) (m n k : ℕ) → n ≡ length xs → n + k ≡ m → take n xs ++ take k zeros ≡ take m (xs ++ zeros)
padded_short xs zeros m n k is sum = grind (arith, common_steps, take-append-add xs zeros k)

padded_long : (xs zeros : List ℕ) (m n k : ℕ) → m ≤ length xs → n ≡ m → k ≡ 0 → take n xs ++ take k zeros ≡ take m (xs ++ zeros)
padded_long xs zeros m n k long is none = grind (arith, common_steps)

-- bytes, as many as a page takes, then zeros
pub padded_parts : (xs front rest : List ℕ) (n k : ℕ) → front ≡ take n xs → rest ≡ replicate k 0 → n ≡ min (length xs) 256 → k + n ≡ 256 → front ++ rest ≡ padded xs
unfolding padded
padded_parts xs front rest n k first others is sum =
    ap₂ (λ (a b : List ℕ). a ++ b) first (others ∙ sym (take-replicate k 256 0 (omega arith)))
    ∙ elim (cases_lt (length xs) 256) [
      | inl short ↦ padded_short xs (replicate 256 0) 256 n k (omega arith) (omega arith)
      | inr long ↦ padded_long xs (replicate 256 0) 256 n k long (omega arith) (omega arith)
    ]

-- a page of the ring is written
pub page_written : (pages : List RxPage) (i : ℕ) (page : RxPage) (is : Page) → page_of page ≡ is → map page_of (set pages i page) ≡ set (map page_of pages) i is
page_written pages i page is same = map-set page_of pages i page ∙ ap (set (map page_of pages) i) same
