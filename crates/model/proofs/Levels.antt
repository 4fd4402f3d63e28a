-- Levels of bytes.
use Rattle.std.proofs.Common.{◌≡◌, ℕ, zero, suc, ◌+◌, ◌*◌, ◌/◌, ◌%◌, ◌<◌, ◌≤◌, true, false, List, [], ◌∷◌, ◌++◌, length, get_or, refl, ap, ◌∙◌, arith, length-append}
use lib.ListN.{get_or-eq_default}
use Rattle.std.proofs.lemmas.List.{get_or_append_left, get_or-append-add}
use Rattle.model.specs.Bits.{bits}
use Rattle.model.specs.Crc.{crc_of}
use Rattle.model.specs.Levels.{Bytes, levels}
use Rattle.model.specs.Frames.{length_byte, Message, framed, frame_levels}

pub levels-++ : (xs ys : List ℕ) → levels (xs ++ ys) ≡ levels xs ++ levels ys
levels-++ [] ys = refl
levels-++ (x ∷ xs) ys = ap (λ ls. false ∷ bits 8 x ++ (true ∷ ls)) (levels-++ xs ys)

pub bytes-++ : (xs ys : List ℕ) → Bytes xs → Bytes ys → Bytes (xs ++ ys)
bytes-++ [] ys h k = k
bytes-++ (x ∷ xs) ys h k = (h.0, bytes-++ xs ys h.1 k)

-- what is a byte at each place
pub bytes-from : (xs : List ℕ) → ((i : ℕ) → get_or xs i 0 < 256) → Bytes xs
bytes-from [] h = tt
bytes-from (x ∷ xs) h = (h 0, bytes-from xs (λ i. h (suc i)))

-- ten levels a byte
pub length-levels : (xs : List ℕ) → length (levels xs) ≡ 10 * length xs
length-levels [] = refl
length-levels (x ∷ xs) = omega (arith, length-levels xs)

-- and for the two bytes of its CRC
pub length_frame_levels : (xs : List ℕ) → length (frame_levels xs) ≡ 10 * (length xs + 2)
length_frame_levels xs = length-levels (framed xs) ∙ ap (λ n. 10 * n) (length-append xs (crc_of xs % 256 ∷ crc_of xs / 256 ∷ []))

pub length-frame : (xs : List ℕ) → Message xs → length (frame_levels xs) ≡ 10 * (length_byte xs + 5)
length-frame xs m = omega (arith, length_frame_levels xs, m.whole)

-- ---- one level

-- level r of byte q
pub level_at : (xs : List ℕ) (q r : ℕ) → r < 10 → q < length xs → get_or (levels xs) (10 * q + r) true ≡ get_or (levels (get_or xs q 0 ∷ [])) r true
level_at [] q r small lt = absurd (omega arith)
level_at (x ∷ xs) zero r small lt =
    let here : 10 * 0 + r ≡ r = omega arith in
    ap (λ n. get_or (levels (x ∷ xs)) n true) here ∙ get_or_append_left (levels (x ∷ [])) (levels xs) true r small
level_at (x ∷ xs) (suc q) r small lt =
    let later : 10 * suc q + r ≡ 10 + (10 * q + r) = omega arith in
    ap (λ n. get_or (levels (x ∷ xs)) n true) later
    ∙ get_or-append-add (levels (x ∷ [])) (levels xs) (10 * q + r) true
    ∙ level_at xs q r small (omega arith)

-- behind the last stop bit
pub level_behind : (xs : List ℕ) (n : ℕ) → 10 * length xs ≤ n → get_or (levels xs) n true ≡ true
level_behind xs n past = get_or-eq_default (levels xs) true (omega (arith, length-levels xs))
