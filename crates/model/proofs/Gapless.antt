-- Where each place of a start bit holds a 0, a right end comes after ten levels for each byte.
use Rattle.std.proofs.Common.{◌≡◌, ℕ, zero, suc, ◌+◌, ◌*◌, ◌≤◌, Bool, true, false, cond, List, [], ◌∷◌, ◌++◌, length, get_or, take, refl, ap, arith}
use Rattle.std.proofs.lemmas.List.{length_push}
use Rattle.model.specs.Bits.{number}
use Rattle.model.specs.Reading.{Reading, hunting, between, inside, Step, goes, ends_broken, ends_right, crc_right, too_long, complete, reads, right, heard_on}

-- the number of levels heard: ten for each byte read, and those of a byte that has come in part
Counted : Reading → ℕ → Type 0
Counted hunting k = Unit {0}
Counted (between xs) k = k ≡ 10 * length xs
Counted (inside xs n bs) k = k + n ≡ 10 * length xs + 9

After : Step → ℕ → Type 0
After (goes r) k = Counted r k
After (ends_broken xs) k = Unit {0}
After (ends_right xs) k = k ≡ 10 * length xs

counted_judged : (a b c : Bool) (xs : List ℕ) (k : ℕ) → k ≡ 10 * length xs
    → After (cond a (ends_broken xs) (cond b (cond c (ends_right xs) (ends_broken xs)) (goes (between xs)))) k
unfolding After Counted
counted_judged true b c xs k h = tt
counted_judged false true true xs k h = h
counted_judged false true false xs k h = tt
counted_judged false false c xs k h = h

counted_one : (r : Reading) (b : Bool) (k : ℕ) → ((j : ℕ) → k ≡ 10 * j → b ≡ false) → Counted r k → After (reads b r) (suc k)
unfolding After Counted
counted_one hunting b k low h = tt
counted_one (between xs) false k low h = omega arith
counted_one (between xs) true k low h = let no : ◌≡◌ {A = ℕ} 0 1 = cc (low (length xs) h) in absurd (omega arith)
counted_one (inside xs (suc n) bs) b k low h = omega arith
counted_one (inside xs zero bs) false k low h = tt
counted_one (inside xs zero bs) true k low h =
    counted_judged (too_long ys) (complete ys) (crc_right ys) ys (suc k) (omega (arith, length_push xs (number bs)))
  where
    ys : List ℕ
    ys = xs ++ (number bs ∷ [])

-- After k levels and so many of these, ten for each byte, the frame has ended right.
pub record EndsAfter (ls : List Bool) (s : Step) (k : ℕ) (bytes : List ℕ) : Type 0 where
  pub count : ℕ
  pub within : count ≤ length ls
  pub ten_each : k + count ≡ 10 * length bytes
  pub there : heard_on (take count ls) s ≡ right bytes 0

at_once : (ls : List Bool) (ys : List ℕ) (k : ℕ) (bytes : List ℕ) → k ≡ 10 * length ys → ys ≡ bytes → EndsAfter ls (ends_right ys) k bytes
at_once ls ys k bytes h same =
    record { count = 0; within = omega arith; ten_each = omega (arith, ap length same); there = ap (λ zs. right zs 0) same }

counted_all : (ls : List Bool) (s : Step) (k : ℕ) (bytes : List ℕ) (left : ℕ) → After s k
    → ((i j : ℕ) → k + i ≡ 10 * j → get_or ls i false ≡ false)
    → heard_on ls s ≡ right bytes left → EndsAfter ls s k bytes
unfolding After
counted_all [] (goes r) k bytes left h low e = let no : ◌≡◌ {A = ℕ} 0 1 = cc in absurd (omega arith)
counted_all [] (ends_broken ys) k bytes left h low e = let no : ◌≡◌ {A = ℕ} 0 1 = cc in absurd (omega arith)
counted_all [] (ends_right ys) k bytes left h low e = at_once [] ys k bytes h (cc)
counted_all (l ∷ ls) (goes r) k bytes left h low e =
    let rest = counted_all ls (reads l r) (suc k) bytes left (counted_one r l k (λ j f. low 0 j (omega arith)) h)
    (λ i j f. low (suc i) j (omega arith)) e in
    record {
      count = suc rest.count;
      within = omega (arith, rest.within);
      ten_each = omega (arith, rest.ten_each);
      there = rest.there;
    }
counted_all (l ∷ ls) (ends_broken ys) k bytes left h low e = let no : ◌≡◌ {A = ℕ} 0 1 = cc in absurd (omega arith)
counted_all (l ∷ ls) (ends_right ys) k bytes left h low e = at_once (l ∷ ls) ys k bytes h (cc)

pub gapless_end : (ls : List Bool) (bytes : List ℕ) (left : ℕ) → ((i j : ℕ) → i ≡ 10 * j → get_or ls i false ≡ false)
    → heard_on ls (goes (between [])) ≡ right bytes left → EndsAfter ls (goes (between [])) 0 bytes
unfolding After Counted
gapless_end ls bytes left low e = counted_all ls (goes (between [])) 0 bytes left refl (λ i j f. low i j (omega arith)) e
