-- A frame's levels, some of them pulled to 0 from outside: they are never read as another frame.
use Rattle.std.proofs.Common.{◌≡◌, ℕ, zero, suc, ◌+◌, ◌*◌, ◌<◌, ◌≤◌, Bool, true, false, not, ◌&&◌, List, [], ◌∷◌, length, get_or, take, drop, sym, refl, ap, ◌∙◌, arith}
use Rattle.std.proofs.lemmas.List.{ext_get_or, get_or-take, get_or-drop, take_all, length-take-le, length-drop}
use Rattle.model.specs.Bits.{number}
use Rattle.model.specs.Levels.{Bytes, levels}
use Rattle.model.specs.Frames.{length_byte, Message, framed, frame_levels}
use Rattle.model.specs.Reading.{between, goes, right, heard_on}
use Rattle.model.specs.Codec.{FrameOf}
use Rattle.model.specs.Disturbance.{pulled_low, ShortBurst, NeverAnother}
use Rattle.model.proofs.Bits.{number-bits}
use Rattle.model.proofs.Levels.{length-frame}
use Rattle.model.proofs.Judged.{length-framed, length_byte-framed}
use Rattle.model.proofs.Codec.{bytes-framed, read_was_sent}
use Rattle.model.proofs.Gapless.{gapless_end}
use Rattle.model.proofs.LevelBits.{same_frame}

-- ---- levels that are pulled

pub length-pulled : (ls pulls : List Bool) → length (pulled_low ls pulls) ≡ length ls
length-pulled [] pulls = refl
length-pulled (l ∷ ls) [] = refl
length-pulled (l ∷ ls) (p ∷ pulls) = ap suc (length-pulled ls pulls)

and_true : (b : Bool) → b ≡ (b && true)
and_true true = refl
and_true false = refl

-- a level that is not pulled stays, and one that is pulled is 0
pub level_pulled : (ls pulls : List Bool) (k : ℕ) → get_or (pulled_low ls pulls) k false ≡ (get_or ls k false && not (get_or pulls k false))
level_pulled [] pulls k = refl
level_pulled (l ∷ ls) [] k = and_true (get_or (l ∷ ls) k false)
level_pulled (l ∷ ls) (p ∷ pulls) zero = refl
level_pulled (l ∷ ls) (p ∷ pulls) (suc k) = level_pulled ls pulls k

-- a 0 stays a 0
still_low : (ls pulls : List Bool) (k : ℕ) → get_or ls k false ≡ false → get_or (pulled_low ls pulls) k false ≡ false
still_low ls pulls k e = level_pulled ls pulls k ∙ ap (λ b. b && not (get_or pulls k false)) e

-- where nothing pulls, a level stays
as_it_was : (ls pulls : List Bool) (k : ℕ) → (get_or pulls k false ≡ true → ⊥) → get_or (pulled_low ls pulls) k false ≡ get_or ls k false
as_it_was ls pulls k h =
    level_pulled ls pulls k ∙ ap (λ p. get_or ls k false && not p) (not_so (get_or pulls k false) h) ∙ sym (and_true (get_or ls k false))
  where
    not_so : (p : Bool) → (p ≡ true → ⊥) → p ≡ false
    not_so true never = absurd (never refl)
    not_so false never = refl

-- every start bit is a 0
start_low : (ys : List ℕ) (i j : ℕ) → i ≡ 10 * j → get_or (levels ys) i false ≡ false
start_low [] i j e = refl
start_low (y ∷ ys) i zero e = ap (λ k. get_or (levels (y ∷ ys)) k false) e
start_low (y ∷ ys) i (suc j) e = ap (λ k. get_or (levels (y ∷ ys)) k false) ten ∙ start_low ys (10 * j) j refl
  where
    ten : i ≡ suc (suc (suc (suc (suc (suc (suc (suc (suc (suc (10 * j))))))))))
    ten = omega (arith, e)

-- ---- the length byte

-- its eight bits, among the levels
length_bits : List Bool → List Bool
length_bits ls = take 8 (drop 21 ls)

number-length_bits : (xs : List ℕ) → 3 ≤ length xs → Bytes xs → number (length_bits (levels xs)) ≡ length_byte xs
unfolding length_bits
number-length_bits [] h fit = absurd (omega arith)
number-length_bits (x ∷ []) h fit = absurd (omega arith)
number-length_bits (x ∷ y ∷ []) h fit = absurd (omega arith)
number-length_bits (x ∷ y ∷ z ∷ xs) h fit = number-bits 8 z fit.1.1.0

same_length_bits : (ls ms : List Bool) → 30 ≤ length ls → 30 ≤ length ms
    → ((k : ℕ) → 20 ≤ k → k < 30 → get_or ls k false ≡ get_or ms k false) → length_bits ls ≡ length_bits ms
unfolding length_bits
same_length_bits ls ms hl hm same =
    ext_get_or false (take 8 (drop 21 ls)) (take 8 (drop 21 ms)) (eight ls hl ∙ sym (eight ms hm))
    (λ i h. let small : i < 8 = omega (arith, eight ls hl) in
    at ls i small ∙ same (21 + i) (omega arith) (omega arith) ∙ sym (at ms i small))
  where
    eight : (ns : List Bool) → 30 ≤ length ns → length (take 8 (drop 21 ns)) ≡ 8
    eight ns h = length-take-le 8 (drop 21 ns) (simp length-drop (omega arith))

    at : (ns : List Bool) (i : ℕ) → i < 8 → get_or (take 8 (drop 21 ns)) i false ≡ get_or ns (21 + i) false
    at ns i h = get_or-take 8 (drop 21 ns) i false h ∙ get_or-drop 21 ns i false

-- two frames that agree in the levels of the length byte are of one length
same_length : (m n : List ℕ) → Message m → Message n
    → ((k : ℕ) → 20 ≤ k → k < 30 → get_or (frame_levels n) k false ≡ get_or (frame_levels m) k false) → length_byte n ≡ length_byte m
same_length m n okm okn same =
    sym (read n okn)
    ∙ ap number (same_length_bits (frame_levels n) (frame_levels m) (omega (arith, length-frame n okn)) (omega (arith, length-frame m okm)) same)
    ∙ read m okm
  where
    read : (w : List ℕ) → Message w → number (length_bits (frame_levels w)) ≡ length_byte w
    read w ok = number-length_bits (framed w) (omega (arith, length-framed w ok)) (bytes-framed w ok) ∙ length_byte-framed w ok

-- ---- what still reads as right

-- if the first pulled levels are a frame, and those of the length byte were not pulled, then it is all of them
frame_is_all : (m n : List ℕ) → Message m → Message n → (pulls : List Bool) (count : ℕ)
    → count ≤ length (pulled_low (frame_levels m) pulls) → take count (pulled_low (frame_levels m) pulls) ≡ frame_levels n
    → ((k : ℕ) → 20 ≤ k → k < 30 → get_or pulls k false ≡ true → ⊥) → pulled_low (frame_levels m) pulls ≡ frame_levels n
frame_is_all m n okm okn pulls count within is misses =
    sym (take_all count got (omega (arith, same, tens, length-pulled (frame_levels m) pulls, length-frame m okm))) ∙ is
  where
    got : List Bool
    got = pulled_low (frame_levels m) pulls

    tens : count ≡ 10 * (length_byte n + 5)
    tens = sym (length-take-le count got within) ∙ ap length is ∙ length-frame n okn

    same : length_byte n ≡ length_byte m
    same = same_length m n okm okn
        (λ k low high. ap (λ ls. get_or ls k false) (sym is)
        ∙ get_or-take count got k false (omega (arith, tens))
        ∙ as_it_was (frame_levels m) pulls k (misses k low high))

-- what ends right is a frame, and all the levels are its
whole_frame : (m : List ℕ) → Message m → (start : ℕ) (pulls : List Bool) → ShortBurst start pulls → (bytes : List ℕ) (left : ℕ)
    → heard_on (pulled_low (frame_levels m) pulls) (goes (between [])) ≡ right bytes left
    → (n : List ℕ) × FrameOf n bytes (pulled_low (frame_levels m) pulls)
whole_frame m ok start pulls burst bytes left e =
    let got = pulled_low (frame_levels m) pulls in
    let end = gapless_end got bytes left (λ i j f. still_low (frame_levels m) pulls i (start_low (framed m) i j f)) e in
    let found = read_was_sent (take end.count got) bytes end.there
    (length-take-le end.count got end.within ∙ omega (arith, end.ten_each)) in (
      found.0,
      record {
        is_message = found.1.is_message;
        with_crc = found.1.with_crc;
        as_levels = frame_is_all m found.0 ok found.1.is_message pulls end.count end.within found.1.as_levels
            (λ k low high p. omega (arith, burst.misses_length k p));
      },
    )

pub never_another : NeverAnother
never_another m ok start pulls burst bytes left e =
    let found = whole_frame m ok start pulls burst bytes left e in
    let is = found.1.as_levels in
    let same : (k : ℕ) → (get_or pulls k false ≡ true → ⊥) → get_or (frame_levels found.0) k false ≡ get_or (frame_levels m) k false =
    λ k h. ap (λ ls. get_or ls k false) (sym is) ∙ as_it_was (frame_levels m) pulls k h in
    found.1.with_crc
    ∙ same_frame m found.0 ok found.1.is_message (ap length (sym is) ∙ length-pulled (frame_levels m) pulls) start
    (λ k below. same k (λ p. omega (arith, burst.within_16 k p)))
    (λ k above. same k (λ p. omega (arith, burst.within_16 k p)))
