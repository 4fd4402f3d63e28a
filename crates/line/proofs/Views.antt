-- Tables of the code seen through a view of their elements.
use Rattle.std.proofs.Common.{◌≡◌, ℕ, zero, suc, ◌+◌, ◌<◌, ◌&&◌, cond, eqb, List, [], ◌∷◌, ◌++◌, map, length, get_or, take, drop, set, replicate, sym, refl, ap, ◌∙◌, arith, length-append}
use Rattle.std.specs.List.{list_all}
use Rattle.std.proofs.lemmas.List.{map-set, map-append, map_more, set-get_or, length-map, length-take, get_or-map, get_or_at, drop_more}
use Rattle.std.proofs.lemmas.List.Edits.{map_over_more}
use Rattle.controller.specs.declared.chip.Controller.{Controller}
use Rattle.controller.specs.View.{node, nodes}
use Rattle.model.specs.BitTime.{all, driving}

-- the rules' word for it and std's
pub all_nodes : (cs : List Controller) → all (map driving (nodes cs)) ≡ list_all (λ c. driving (node c)) cs
all_nodes [] = refl
all_nodes (c ∷ cs) = ap (λ b. driving (node c) && b) (all_nodes cs)

pub map-replicate : {X Y : Type 0} (v : X → Y) (n : ℕ) (x : X) → map v (replicate n x) ≡ replicate n (v x)
map-replicate v zero x = refl
map-replicate v (suc n) x = ap (λ ys. v x ∷ ys) (map-replicate v n x)

-- the first i elements have been changed by f, with what g tells of them, and the others are as found
pub record Moved {X Y M N : Type 0} (v : X → Y) (w : M → N) (f : Y → Y) (g : Y → N) (t : List Y) (i : ℕ) (xs : List X) (ms : List M) : Type 0 where
  pub many : length ms ≡ i
  pub changed : map v xs ≡ map f (take i t) ++ drop i t
  pub told : map w ms ≡ map g (take i t)

pub moved_more : {X Y M N : Type 0} {v : X → Y} {w : M → N} {f : Y → Y} {g : Y → N} {t : List Y} {i : ℕ} {xs : List X} {ms : List M} (x y : X) (m : M) (ns : List M)
    → Moved v w f g t i xs ms → i < length t → length xs ≡ length t
    → v y ≡ f (v (get_or xs i x)) → w m ≡ g (v (get_or xs i x)) → ns ≡ ms ++ m ∷ []
    → Moved v w f g t (i + 1) (set xs i y) ns
moved_more {v} {w} {f} {g} {t} {i} {xs} {ms} x y m ns was lt len changes tells is =
    let front = map f (take i t) in
    let old = v (get_or xs i x) in
    let read : old ≡ get_or (map v xs) i old = sym (get_or-map v xs i x old (omega arith)) in
    let short : length front ≡ i = length-map (take i t) f ∙ omega (arith, length-take i t) in
    let here : old ≡ get_or t i old =
    read ∙ ap (λ l. get_or l i old) (was.changed ∙ ap (λ l. front ++ l) (drop_more t i old lt)) ∙ get_or_at front (get_or t i old) (drop (i + 1) t) old i short in
    record {
      many = omega (arith, length-append ms (m ∷ []), ap length is);
      changed = map-set v xs i y ∙ ap (set (map v xs) i) changes ∙ map_over_more f t (map v xs) i old lt was.changed read;
      told = grind (arith, map-append, map_more g t i old);
    }

-- one element changed, or none
pub changed_or_not : {X Y : Type 0} (v : X → Y) (e : Y) (f : Y → Y) (xs : List X) (k n m : ℕ) (x y : X)
    → k < length xs → v y ≡ cond (eqb n 0) (f (v (get_or xs k x))) (v (get_or xs k x)) → n ≡ m
    → map v (set xs k y) ≡ cond (eqb m 0) (set (map v xs) k (f (get_or (map v xs) k e))) (map v xs)
changed_or_not v e f xs k n m x y lt is same =
    grind (arith, map-set v xs k y, get_or-map v xs k x e lt, set-get_or (map v xs) k e, is, same)
