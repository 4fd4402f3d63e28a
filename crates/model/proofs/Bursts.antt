-- Bursts of register bytes: cut in two they are two bursts, and one byte more is one more register access.
use Rattle.std.proofs.Common.{◌≡◌, ℕ, zero, suc, ◌+◌, ◌<◌, List, [], ◌∷◌, ◌++◌, length, get_or, drop, refl, ap, ◌∙◌, suc-add, zero-add, add-one, drop-cons}
use Rattle.model.specs.Registers.{Register}
use Rattle.model.specs.Controller.{Controller}
use Rattle.model.specs.RegisterRule.{writes, writes_all, gives, leaves, gives_all, leaves_all}

-- ---- writing

pub writes_all-none : (r : Register) (c : Controller) → writes_all r [] c ≡ c
unfolding writes_all
writes_all-none r c = refl

pub writes_all-++ : (r : Register) (vs ws : List ℕ) (c : Controller) → writes_all r (vs ++ ws) c ≡ writes_all r ws (writes_all r vs c)
unfolding writes_all
writes_all-++ r [] ws c = refl
writes_all-++ r (v ∷ vs) ws c = writes_all-++ r vs ws (writes r v c)

-- the byte at i, then those behind it, are all from i on
pub writes_all-next : (r : Register) (vs : List ℕ) (i : ℕ) (c : Controller) → i < length vs
    → writes_all r (drop (i + 1) vs) (writes r (get_or vs i 0) c) ≡ writes_all r (drop i vs) c
unfolding writes_all
writes_all-next r vs i c h = rw (add-one, drop-cons vs i 0)

-- ---- reading

pub leaves_all-+ : (r : Register) (m n : ℕ) (c : Controller) → leaves_all r (m + n) c ≡ leaves_all r n (leaves_all r m c)
unfolding leaves_all
leaves_all-+ r zero n c = ap (λ k. leaves_all r k c) (zero-add n)
leaves_all-+ r (suc m) n c = ap (λ k. leaves_all r k c) (suc-add m n) ∙ leaves_all-+ r m n (leaves r c)

pub gives_all-+ : (r : Register) (m n : ℕ) (c : Controller) → gives_all r (m + n) c ≡ gives_all r m c ++ gives_all r n (leaves_all r m c)
unfolding gives_all leaves_all
gives_all-+ r zero n c = ap (λ k. gives_all r k c) (zero-add n)
gives_all-+ r (suc m) n c = ap (λ k. gives_all r k c) (suc-add m n) ∙ ap (λ (xs : List ℕ). gives r c ∷ xs) (gives_all-+ r m n (leaves r c))

pub length-gives_all : (r : Register) (n : ℕ) (c : Controller) → length (gives_all r n c) ≡ n
unfolding gives_all
length-gives_all r zero c = refl
length-gives_all r (suc n) c = ap suc (length-gives_all r n (leaves r c))

-- one read more leaves one step more
pub leaves_all-more : (r : Register) (n : ℕ) (c : Controller) → leaves_all r (n + 1) c ≡ leaves r (leaves_all r n c)
unfolding leaves_all
leaves_all-more r n c = leaves_all-+ r n 1 c

-- and gives one byte more
pub gives_all-more : (r : Register) (n : ℕ) (c : Controller) → gives_all r (n + 1) c ≡ gives_all r n c ++ (gives r (leaves_all r n c) ∷ [])
unfolding gives_all
gives_all-more r n c = gives_all-+ r n 1 c
