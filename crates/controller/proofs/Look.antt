-- A look copies byte after byte.
use Rattle.std.proofs.Common.{◌≡◌, ℕ, ◌+◌, ◌-◌, ◌<◌, ◌≤◌, List, ◌++◌, length, get_or, take, drop, set, min, sym, ap, ◌∙◌, zero-add, arith}
use Rattle.std.proofs.lemmas.List.{get_or-drop, length-drop, length-take-le}
use Rattle.model.specs.Controller.{page_size, PageRing, read_page}
use Rattle.model.specs.Operations.{put_into}
use Rattle.controller.specs.Look.{page_from}
use Rattle.controller.proofs.Copies.{copy_more}

-- n bytes of a page from a place on, and then the buffer as it was found
abbrev pub front : (page : List ℕ) (place n : ℕ) (found : List ℕ) → List ℕ
front page place n found = take n (drop place page) ++ drop n found

-- n bytes were copied, and one more is
pub front_more : (page found : List ℕ) (place n i : ℕ) → n < length found → i < length page → i ≡ place + n
    → set (front page place n found) n (get_or page i 0) ≡ front page place (n + 1) found
front_more page found place n i room more is =
    let rest : n < length (drop place page) = simp length-drop (omega arith) in
    copy_more found (drop place page) n (get_or page i 0) 0 room rest (ap (λ k. get_or page k 0) is ∙ sym (get_or-drop place page n 0))

-- all that a look copies
pub count_seen : (g : PageRing) (place n : ℕ) (found : List ℕ) → n ≡ min (length found) (page_size - place) → n ≤ length (read_page g).bytes - place
    → n ≡ length (page_from place g (length found))
unfolding page_from
count_seen g place n found is has =
    let page = (read_page g).bytes in
    sym (length-take-le n (drop place page) (simp length-drop has)) ∙ ap (λ m. length (take m (drop place page))) is

pub front_seen : (g : PageRing) (place n : ℕ) (found : List ℕ) → n ≡ min (length found) (page_size - place) → n ≤ length (read_page g).bytes - place
    → front (read_page g).bytes place n found ≡ put_into found 0 (page_from place g (length found))
unfolding page_from put_into
front_seen g place n found is has =
    let page = (read_page g).bytes in
    let long = length-take-le n (drop place page) (simp length-drop has) in
    ap (λ m. take n (drop place page) ++ drop m found) (sym long ∙ sym (zero-add (length (take n (drop place page)))))
    ∙ ap (λ m. put_into found 0 (take m (drop place page))) is
