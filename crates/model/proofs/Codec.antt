-- What is sent is read, and what is read was sent.
use Rattle.std.proofs.Common.{◌≡◌, ℕ, zero, suc, ◌+◌, ◌-◌, ◌*◌, ◌/◌, ◌%◌, ◌^◌, ◌<◌, ◌≤◌, Bool, true, false, cond, List, [], ◌∷◌, ◌++◌, length, get_or, take, drop, sym, refl, ap, ◌∙◌, subst, ap₂, ⊎_elim, append_assoc, append-nil, arith, length-append, drop-cons}
use Rattle.std.proofs.lemmas.List.{get_or_append_left, get_or-take, take-append-drop, length-take-le, drop_all, length_push}
use Rattle.std.proofs.lemmas.Bool.{eqb-true, cases_lt}
use Rattle.model.specs.Bits.{number}
use Rattle.model.specs.Crc.{sent_bits, crc_of}
use Rattle.model.specs.Levels.{Bytes, levels}
use Rattle.model.specs.Frames.{max_data, length_byte, Message, framed, frame_levels}
use Rattle.model.specs.Reading.{Reading, hunting, between, inside, Step, goes, ends_broken, ends_right, crc_right, too_long, complete, judged, reads, Heard, unfinished, broken, right, heard_on}
use Rattle.model.specs.Codec.{Unfinished, ReadsBack, FrameOf, Codec}
use Rattle.model.proofs.Bits.{number-bits, byte_lt, bits-byte}
use Rattle.model.proofs.CrcRegister.{fed_all-lt}
use Rattle.model.proofs.Levels.{levels-++, bytes-++}
use Rattle.model.proofs.Judged.{not_too_long, complete-is, length-framed, front_goes, frame_ends}

-- how many levels are left over; 1 where there is no right end
over : Heard → ℕ
over (unfinished r) = 1
over (broken xs n) = 1
over (right xs n) = n

-- ---- what is sent is read

-- a byte's ten levels lead to the judgment at its stop bit
byte_heard : (xs ys : List ℕ) (y : ℕ) → y < 256
    → heard_on (levels (y ∷ ys)) (goes (between xs)) ≡ heard_on (levels ys) (judged true (xs ++ (y ∷ [])))
byte_heard xs ys y h = ap (λ v. heard_on (levels ys) (judged true (xs ++ (v ∷ [])))) (number-bits 8 y h)

-- what is left of a frame leads to its right end
frame_heard : (m xs ys : List ℕ) → Message m → xs ++ ys ≡ framed m → Bytes ys → 0 < length ys
    → heard_on (levels ys) (goes (between xs)) ≡ right (framed m) 0
frame_heard m xs [] ok e fit some = absurd (omega arith)
frame_heard m xs (y ∷ []) ok e fit some =
    byte_heard xs [] y fit.0 ∙ ap (heard_on []) (ap (judged true) e ∙ frame_ends m ok)
frame_heard m xs (y ∷ z ∷ zs) ok e fit some =
    let e2 : (xs ++ (y ∷ [])) ++ (z ∷ zs) ≡ framed m = append_assoc xs (y ∷ []) (z ∷ zs) ∙ e in
    byte_heard xs (z ∷ zs) y fit.0
    ∙ ap (heard_on (levels (z ∷ zs))) (front_goes m (xs ++ (y ∷ [])) (z ∷ zs) ok e2 (omega arith))
    ∙ frame_heard m (xs ++ (y ∷ [])) (z ∷ zs) ok e2 fit.1 (omega arith)

-- before a right end at the last level the frame has not ended
before_end : (ls : List Bool) (s : Step) (xs : List ℕ) (n : ℕ) → heard_on ls s ≡ right xs 0 → n < length ls → Unfinished (heard_on (take n ls) s)
unfolding over
before_end [] s xs n e h = absurd (omega arith)
before_end (l ∷ ls) (goes r) xs zero e h = (r, refl)
before_end (l ∷ ls) (goes r) xs (suc n) e h = before_end ls (reads l r) xs n e (omega arith)
before_end (l ∷ ls) (ends_broken ys) xs n e h = absurd (omega (arith, ap over e))
before_end (l ∷ ls) (ends_right ys) xs n e h = absurd (omega (arith, ap over e))

pub bytes-framed : (m : List ℕ) → Message m → Bytes (framed m)
bytes-framed m ok =
    let c = crc_of m in
    let small : c < 2 ^ 16 = fed_all-lt 0xFFFF (sent_bits m) (omega arith) in
    bytes-++ m (c % 256 ∷ c / 256 ∷ []) ok.bytes (omega arith, (omega arith, tt))

pub sent_is_read : (m : List ℕ) → Message m → ReadsBack m
sent_is_read m ok =
    let some : 0 < length (framed m) = omega (arith, length-framed m ok) in
    let last = frame_heard m [] (framed m) ok refl (bytes-framed m ok) some in
    record { at_last = last; not_before = λ n h. before_end (frame_levels m) (goes (between [])) (framed m) n last h }

-- ---- what is read was sent

-- What the bytes read, and the levels of a byte that has come in part, say of the levels heard so far:
-- there were as many at least, and if no more, then just these.
record SoFar (xs : List ℕ) (part ls : List Bool) : Type 0 where
  bytes : Bytes xs
  small : 3 ≤ length xs → length_byte xs ≤ max_data
  enough : 10 * length xs + length part ≤ length ls
  gapless : length ls ≡ 10 * length xs + length part → ls ≡ levels xs ++ part

Open : Reading → List Bool → Type 0
Open hunting ls = Unit {0}
Open (between xs) ls = SoFar xs [] ls
Open (inside xs n bs) ls = (length bs + n ≡ 8) × SoFar xs (false ∷ bs) ls

After : Step → List Bool → Type 0
After (goes r) ls = Open r ls
After (ends_broken xs) ls = Unit {0}
After (ends_right xs) ls = (complete xs ≡ true) × (crc_right xs ≡ true) × SoFar xs [] ls

-- a level more of a byte that has come in part
part_more : (xs : List ℕ) (part ls : List Bool) (b : Bool) → SoFar xs part ls → SoFar xs (part ++ (b ∷ [])) (ls ++ (b ∷ []))
part_more xs part ls b h = record {
  bytes = h.bytes;
  small = h.small;
  enough = simp length-append (omega (arith, h.enough));
  gapless = λ e.
      ap (λ k. k ++ (b ∷ [])) (h.gapless (omega (arith, simp length-append at e)))
      ∙ append_assoc (levels xs) part (b ∷ []);
}

-- a 1 between bytes is a gap
gap_more : (xs : List ℕ) (ls : List Bool) → SoFar xs [] ls → SoFar xs [] (ls ++ (true ∷ []))
gap_more xs ls h = record {
  bytes = h.bytes;
  small = h.small;
  enough = simp length-append (omega (arith, h.enough));
  gapless = λ e. absurd (omega (arith, simp length-append at e, h.enough));
}

-- a byte more, before it is judged
byte_more : (xs : List ℕ) (bs ls : List Bool) → length bs ≡ 8 → SoFar xs (false ∷ bs) ls → too_long (xs ++ (number bs ∷ [])) ≡ false
    → SoFar (xs ++ (number bs ∷ [])) [] (ls ++ (true ∷ []))
byte_more xs bs ls eight h fits =
    let v = number bs in
    let ys = xs ++ (v ∷ []) in
    let longer : length ys ≡ length xs + 1 = length_push xs v in
    record {
      bytes = bytes-++ xs (v ∷ []) h.bytes (byte_lt bs eight, tt);
      small = λ three. ⊎_elim
          (λ before. omega (arith, not_too_long (length ys) (length_byte ys) fits (omega arith)))
          (λ after. omega (arith, get_or_append_left xs (v ∷ []) 0 2 after, h.small after))
          (cases_lt (length xs) 3);
      enough = simp length-append (omega (arith, h.enough));
      gapless = λ e.
          let nine : length ls ≡ 10 * length xs + length (false ∷ bs) = omega (arith, length_push ls true) in
          ap (λ k. k ++ (true ∷ [])) (h.gapless nine)
          ∙ append_assoc (levels xs) (false ∷ bs) (true ∷ [])
          ∙ ap (λ k. levels xs ++ (false ∷ k ++ (true ∷ []))) (sym (bits-byte bs eight))
          ∙ sym (levels-++ xs (v ∷ [])) ∙ sym (append-nil (levels ys));
    }

judge : (a b c : Bool) (ys : List ℕ) (ls : List Bool) → too_long ys ≡ a → complete ys ≡ b → crc_right ys ≡ c
    → (too_long ys ≡ false → SoFar ys [] ls)
    → After (cond a (ends_broken ys) (cond b (cond c (ends_right ys) (ends_broken ys)) (goes (between ys)))) ls
unfolding After Open
judge true b c ys ls x y z h = tt
judge false true true ys ls x y z h = (y, z, h x)
judge false true false ys ls x y z h = tt
judge false false c ys ls x y z h = h x

one_more : (r : Reading) (ls : List Bool) (b : Bool) → Open r ls → After (reads b r) (ls ++ (b ∷ []))
unfolding After Open
one_more hunting ls b h = tt
one_more (between xs) ls false h = (refl, part_more xs [] ls false h)
one_more (between xs) ls true h = gap_more xs ls h
one_more (inside xs (suc n) bs) ls b h = (simp length-append (omega (arith, h.0)), part_more xs (false ∷ bs) ls b h.1)
one_more (inside xs zero bs) ls false h = tt
one_more (inside xs zero bs) ls true h =
    judge (too_long ys) (complete ys) (crc_right ys) ys (ls ++ (true ∷ [])) refl refl refl (byte_more xs bs ls (omega (arith, h.0)) h.1)
  where
    ys : List ℕ
    ys = xs ++ (number bs ∷ [])

all_more : (more : List Bool) (s : Step) (ls : List Bool) (xs : List ℕ) → After s ls → heard_on more s ≡ right xs 0 → After (ends_right xs) (ls ++ more)
unfolding over After
all_more [] (goes r) ls xs h e = absurd (omega (arith, ap over e))
all_more [] (ends_broken ys) ls xs h e = absurd (omega (arith, ap over e))
all_more [] (ends_right ys) ls xs h e = rw append-nil (subst (λ zs. After (ends_right zs) ls) (let same : ys ≡ xs = cc in same) h)
all_more (l ∷ more) (goes r) ls xs h e =
    subst (After (ends_right xs)) (append_assoc ls (l ∷ []) more)
    (all_more more (reads l r) (ls ++ (l ∷ [])) xs (one_more r ls l h) e)
all_more (l ∷ more) (ends_broken ys) ls xs h e = absurd (omega (arith, ap over e))
all_more (l ∷ more) (ends_right ys) ls xs h e = absurd (omega (arith, ap over e))

nothing_heard : SoFar [] [] []
nothing_heard = record { bytes = tt; small = λ h. absurd (omega arith); enough = omega arith; gapless = λ e. refl }

all_heard : (ls : List Bool) (xs : List ℕ) → heard_on ls (goes (between [])) ≡ right xs 0
    → (complete xs ≡ true) × (crc_right xs ≡ true) × SoFar xs [] ls
unfolding After Open
all_heard ls xs e = all_more ls (goes (between [])) [] xs nothing_heard e

bytes_take : (n : ℕ) (xs : List ℕ) → Bytes xs → Bytes (take n xs)
bytes_take zero xs h = tt
bytes_take (suc n) [] h = tt
bytes_take (suc n) (x ∷ xs) h = (h.0, bytes_take n xs h.1)

byte_at : (xs : List ℕ) (n : ℕ) → Bytes xs → get_or xs n 0 < 256
byte_at [] n h = omega arith
byte_at (x ∷ xs) zero h = h.0
byte_at (x ∷ xs) (suc n) h = byte_at xs n h.1

-- a list of two elements or more is what comes before its last two, and these
last_two : (xs : List ℕ) → 2 ≤ length xs
    → xs ≡ take (length xs - 2) xs ++ (get_or xs (length xs - 2) 0 ∷ get_or xs (length xs - 1) 0 ∷ [])
last_two xs h =
    let n = length xs in
    let next : suc (n - 2) ≡ n - 1 = omega arith in
    let end : suc (suc (n - 2)) ≡ n = omega arith in
    sym (take-append-drop (n - 2) xs)
    ∙ ap (λ k. take (n - 2) xs ++ k)
    (drop-cons xs (n - 2) 0 (omega arith)
    ∙ ap (λ k. get_or xs (n - 2) 0 ∷ k)
    (drop-cons xs (suc (n - 2)) 0 (omega arith)
    ∙ ap₂ (λ k j. get_or xs k 0 ∷ drop j xs) next end
    ∙ ap (λ k. get_or xs (n - 1) 0 ∷ k) (drop_all n xs (omega arith))))

-- two bytes that write the CRC are its low and its high byte
crc_parts : (c a b : ℕ) → c ≡ a + b * 256 → a < 256 → (a ≡ c % 256) × (b ≡ c / 256)
crc_parts c a b e h = (omega arith, omega arith)

-- the bytes of a right end are a message with its CRC
right_framed : (xs : List ℕ) → Bytes xs → length xs ≡ length_byte xs + 5 → crc_right xs ≡ true → xs ≡ framed (take (length xs - 2) xs)
unfolding crc_right
right_framed xs fit long crc =
    let n = length xs in
    let m = take (n - 2) xs in
    let parts = crc_parts (crc_of m) (get_or xs (n - 2) 0) (get_or xs (n - 1) 0) (eqb-true _ _ crc) (byte_at xs (n - 2) fit) in
    last_two xs (omega arith) ∙ ap₂ (λ a b. m ++ (a ∷ b ∷ [])) parts.0 parts.1

pub read_was_sent : (ls : List Bool) (xs : List ℕ) → heard_on ls (goes (between [])) ≡ right xs 0
    → length ls ≡ 10 * length xs → (m : List ℕ) × FrameOf m xs ls
read_was_sent ls xs e long =
    let h = all_heard ls xs e in
    let sofar = h.2 in
    let n : length xs ≡ length_byte xs + 5 = complete-is (length xs) (length_byte xs) h.0 in
    let m = take (length xs - 2) xs in
    let is : xs ≡ framed m = right_framed xs sofar.bytes n h.1 in
    let same : length_byte m ≡ length_byte xs = get_or-take (length xs - 2) xs 2 0 (omega arith) in (
      m,
      record {
        is_message = record {
          bytes = bytes_take (length xs - 2) xs sofar.bytes;
          small = omega (arith, same, sofar.small (omega arith));
          whole = length-take-le (length xs - 2) xs (omega arith) ∙ omega (arith, same);
        };
        with_crc = is;
        as_levels = sofar.gapless (omega arith) ∙ append-nil (levels xs) ∙ ap levels is;
      },
    )

pub codec : Codec
codec = record { starts_idle = λ ls. refl; sent_is_read = sent_is_read; read_was_sent = read_was_sent }
