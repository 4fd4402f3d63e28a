-- How a frame is judged at a stop bit.
use Rattle.std.proofs.Common.{◌≡◌, ℕ, ◌+◌, ◌-◌, ◌*◌, ◌/◌, ◌%◌, ◌<◌, ◌≤◌, true, false, cond, ◌&&◌, eqb, ltb, leb, ◌≢◌, List, [], ◌∷◌, ◌++◌, length, get_or, sym, ap, ◌∙◌, ap₂, append_assoc, arith, length-append}
use Rattle.std.proofs.lemmas.List.{get_or_append_left, get_or_at, take_at}
use Rattle.std.proofs.lemmas.Bool.{eq-eqb}
use Rattle.std.proofs.lemmas.Bool.Decides.{nat_tests}
use Rattle.model.specs.Crc.{crc_of}
use Rattle.model.specs.Frames.{max_data, length_byte, Message, framed}
use Rattle.model.specs.Reading.{between, goes, ends_broken, ends_right, crc_right, too_long, complete, judged}

-- where these tests come out so, the frame goes on or ends right
judged-goes : (p : List ℕ) → too_long p ≡ false → complete p ≡ false → judged true p ≡ goes (between p)
judged-goes p a b =
    ap (λ x. cond x (ends_broken p) (cond (complete p) (cond (crc_right p) (ends_right p) (ends_broken p)) (goes (between p)))) a
    ∙ ap (λ x. cond x (cond (crc_right p) (ends_right p) (ends_broken p)) (goes (between p))) b

judged-right : (p : List ℕ) → too_long p ≡ false → complete p ≡ true → crc_right p ≡ true → judged true p ≡ ends_right p
judged-right p a b c =
    ap (λ x. cond x (ends_broken p) (cond (complete p) (cond (crc_right p) (ends_right p) (ends_broken p)) (goes (between p)))) a
    ∙ ap (λ x. cond x (cond (crc_right p) (ends_right p) (ends_broken p)) (goes (between p))) b
    ∙ ap (λ x. cond x (ends_right p) (ends_broken p)) c

-- ---- the tests, on a number of bytes and a length byte

not_long : (n l : ℕ) → (n ≡ 3 → l ≤ max_data) → (eqb n 3 && ltb max_data l) ≡ false
not_long n l h = grind (arith, nat_tests)

pub not_too_long : (n l : ℕ) → (eqb n 3 && ltb max_data l) ≡ false → n ≡ 3 → l ≤ max_data
not_too_long n l e h = grind (arith, nat_tests)

not_all : (n l : ℕ) → (3 ≤ n → n < l + 5) → (leb 3 n && eqb n (l + 5)) ≡ false
not_all n l h = grind (arith, nat_tests)

pub not_complete : (n l : ℕ) → (leb 3 n && eqb n (l + 5)) ≡ false → 3 ≤ n → n ≢ l + 5
not_complete n l e h = grind (arith, nat_tests)

all_read : (n l : ℕ) → n ≡ l + 5 → (leb 3 n && eqb n (l + 5)) ≡ true
all_read n l h = grind (arith, nat_tests)

pub complete-is : (n l : ℕ) → (leb 3 n && eqb n (l + 5)) ≡ true → n ≡ l + 5
complete-is n l e = grind (arith, nat_tests)

-- ---- a frame's bytes, judged one after the other

length-kept : (m more : List ℕ) → 3 ≤ length m → length_byte (m ++ more) ≡ length_byte m
length-kept m more h = get_or_append_left m more 0 2 h

pub length-framed : (m : List ℕ) → Message m → length (framed m) ≡ length_byte m + 5
length-framed m ok = simp length-append (omega (arith, ok.whole))

pub length_byte-framed : (m : List ℕ) → Message m → length_byte (framed m) ≡ length_byte m
length_byte-framed m ok = length-kept m _ (omega (arith, ok.whole))

-- a front of the frame that is not all of it
pub front_goes : (m p q : List ℕ) → Message m → p ++ q ≡ framed m → 0 < length q → judged true p ≡ goes (between p)
front_goes m p q ok e some =
    let shorter : length p < length_byte m + 5 = omega (arith, length-framed m ok, ap length e, length-append p q) in
    let same : 3 ≤ length p → length_byte p ≡ length_byte m =
    λ h. sym (length-kept p q h) ∙ ap length_byte e ∙ length_byte-framed m ok in
    judged-goes p
    (not_long (length p) (length_byte p) (λ h. omega (arith, same (omega arith), ok.small)))
    (not_all (length p) (length_byte p) (λ h. omega (arith, same h)))

-- the last two bytes of a frame, and those before
split_frame : (m : List ℕ) (a b : ℕ) → a + b * 256 ≡ crc_of m → crc_right (m ++ (a ∷ b ∷ [])) ≡ true
unfolding crc_right
split_frame m a b e =
    let n = length (m ++ (a ∷ b ∷ [])) in
    let long : length m ≡ n - 2 = simp length-append (omega arith) in
    let last : length (m ++ (a ∷ [])) ≡ n - 1 = simp length-append (omega arith) in
    eq-eqb _ _
    (ap crc_of (take_at m (a ∷ b ∷ []) (n - 2) long) ∙ sym e
    ∙ sym (ap₂ (λ x y. x + y * 256) (get_or_at m a (b ∷ []) 0 (n - 2) long)
    (ap (λ xs. get_or xs (n - 1) 0) (sym (append_assoc m (a ∷ []) (b ∷ []))) ∙ get_or_at (m ++ (a ∷ [])) b [] 0 (n - 1) last)))

pub frame_ends : (m : List ℕ) → Message m → judged true (framed m) ≡ ends_right (framed m)
frame_ends m ok =
    let long = length-framed m ok in
    let same = length_byte-framed m ok in
    judged-right (framed m)
    (not_long (length (framed m)) (length_byte (framed m)) (λ h. omega (arith, same, ok.small)))
    (all_read (length (framed m)) (length_byte (framed m)) (omega (arith, long, same)))
    (split_frame m (crc_of m % 256) (crc_of m / 256) (omega arith))
