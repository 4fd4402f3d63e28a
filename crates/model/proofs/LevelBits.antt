-- The bits that levels carry, and what the CRC tells of them.
use Rattle.std.proofs.Common.{◌≡◌, ℕ, zero, suc, ◌+◌, ◌*◌, ◌/◌, ◌%◌, ◌^◌, ◌<◌, ◌≤◌, Bool, false, List, [], ◌∷◌, ◌++◌, length, get_or, take, drop, sym, refl, ap, ◌∙◌, ap₂, append_assoc, arith, length-append}
use lib.Bits.{bit_xor, xor_self}
use Rattle.std.proofs.lemmas.List.{ext_get_or, get_or-take, get_or-drop, length-take, length-drop, take-append-drop, drop-drop}
use Rattle.model.specs.Bits.{bits, number}
use Rattle.model.specs.Crc.{shifted, sent_bits, fed_all, crc_of}
use Rattle.model.specs.Levels.{Bytes, levels}
use Rattle.model.specs.Frames.{Message, framed, frame_levels}
use Rattle.model.proofs.Bits.{number-bits}
use Rattle.model.proofs.CrcRegister.{shifts, fed_all-++, fed_all-lt, all_at_once}
use Rattle.model.proofs.CrcBurst.{same_window}
use Rattle.model.proofs.Codec.{bytes-framed}

-- ---- the bits that levels carry

-- The levels that carry a bit. The number says how many levels of the byte are still to come, 0 before a start bit.
carried : List Bool → ℕ → List Bool
carried [] p = []
carried (b ∷ bs) zero = carried bs 9
carried (b ∷ bs) (suc zero) = carried bs 0
carried (b ∷ bs) (suc (suc p)) = b ∷ carried bs (suc p)

-- that number, so many levels later
later : ℕ → ℕ → ℕ
later zero p = p
later (suc n) zero = later n 9
later (suc n) (suc p) = later n p

carried-++ : (u v : List Bool) (p : ℕ) → carried (u ++ v) p ≡ carried u p ++ carried v (later (length u) p)
unfolding carried later
carried-++ [] v p = refl
carried-++ (b ∷ u) v zero = carried-++ u v 9
carried-++ (b ∷ u) v (suc zero) = carried-++ u v 0
carried-++ (b ∷ u) v (suc (suc p)) = ap (λ ls. b ∷ ls) (carried-++ u v (suc p))

carried_levels : (xs : List ℕ) → carried (levels xs) 0 ≡ sent_bits xs
unfolding carried
carried_levels [] = refl
carried_levels (x ∷ xs) = ap (λ ls. bits 8 x ++ ls) (carried_levels xs)

carried_few : (bs : List Bool) (p : ℕ) → length (carried bs p) ≤ length bs
unfolding carried
carried_few [] p = omega arith
carried_few (b ∷ bs) zero = omega (arith, carried_few bs 9)
carried_few (b ∷ bs) (suc zero) = omega (arith, carried_few bs 0)
carried_few (b ∷ bs) (suc (suc p)) = omega (arith, carried_few bs (suc p))

carried_as_many : (u v : List Bool) (p : ℕ) → length u ≡ length v → length (carried u p) ≡ length (carried v p)
unfolding carried
carried_as_many [] [] p e = refl
carried_as_many [] (b ∷ v) p e = absurd (omega arith)
carried_as_many (a ∷ u) [] p e = absurd (omega arith)
carried_as_many (a ∷ u) (b ∷ v) zero e = carried_as_many u v 9 (omega arith)
carried_as_many (a ∷ u) (b ∷ v) (suc zero) e = carried_as_many u v 0 (omega arith)
carried_as_many (a ∷ u) (b ∷ v) (suc (suc p)) e = ap suc (carried_as_many u v (suc p) (omega arith))

-- the bits of levels in three parts
carried_parts : (u w v : List Bool) (n : ℕ) → length w ≡ n
    → carried (u ++ w ++ v) 0 ≡ carried u 0 ++ carried w (later (length u) 0) ++ carried v (later (length u + n) 0)
carried_parts u w v n e =
    carried-++ (u ++ w) v 0
    ∙ ap₂ (λ k j. k ++ carried v (later j 0)) (carried-++ u w 0) (length-append u w ∙ ap (λ k. length u + k) e)

-- ---- levels that agree but for 16 in a row

same_take : (s : ℕ) (ls ms : List Bool) → length ls ≡ length ms → ((k : ℕ) → k < s → get_or ls k false ≡ get_or ms k false)
    → take s ls ≡ take s ms
same_take s ls ms e same =
    ext_get_or false (take s ls) (take s ms) (simp length-take (omega arith))
    (λ i h. let small : i < s = omega (arith, simp length-take at h) in
    get_or-take s ls i false small ∙ same i small ∙ sym (get_or-take s ms i false small))

same_drop : (s : ℕ) (ls ms : List Bool) → length ls ≡ length ms → ((k : ℕ) → s ≤ k → get_or ls k false ≡ get_or ms k false)
    → drop s ls ≡ drop s ms
same_drop s ls ms e same =
    ext_get_or false (drop s ls) (drop s ms) (simp length-drop (omega arith))
    (λ i h. get_or-drop s ls i false ∙ same (s + i) (omega arith) ∙ sym (get_or-drop s ms i false))

three_parts : (s : ℕ) (ls : List Bool) → ls ≡ take s ls ++ take 16 (drop s ls) ++ drop (s + 16) ls
three_parts s ls =
    sym (append_assoc (take s ls) (take 16 (drop s ls)) (drop (s + 16) ls)
    ∙ ap (λ k. take s ls ++ (take 16 (drop s ls) ++ k)) (sym (drop-drop 16 s ls))
    ∙ ap (λ k. take s ls ++ k) (take-append-drop 16 (drop s ls))
    ∙ take-append-drop s ls)

-- if such levels lead the register to the same value, they carry the same bits
same_carried : (c : ℕ) → c < 2 ^ 16 → (s : ℕ) (ls ms : List Bool) → length ls ≡ length ms
    → ((k : ℕ) → k < s → get_or ls k false ≡ get_or ms k false)
    → ((k : ℕ) → s + 16 ≤ k → get_or ls k false ≡ get_or ms k false)
    → fed_all c (carried ls 0) ≡ fed_all c (carried ms 0) → carried ls 0 ≡ carried ms 0
same_carried c hc s ls ms long before after e =
    let u = take s ms in
    let w = take 16 (drop s ms) in
    let x = take 16 (drop s ls) in
    let v = drop (s + 16) ms in
    let p = later (length u) 0 in
    let z = carried v (later (length u + length w) 0) in
    let alike : length x ≡ length w = simp (length-take, length-drop) (omega arith) in
    let few : length w ≤ 16 = simp length-take (omega arith) in
    let parts-ls : carried ls 0 ≡ carried u 0 ++ carried x p ++ z =
    ap (λ k. carried k 0)
    (three_parts s ls ∙ ap₂ (λ a b. a ++ x ++ b) (same_take s ls ms long before) (same_drop (s + 16) ls ms long after))
    ∙ carried_parts u x v (length w) alike in
    let parts-ms : carried ms 0 ≡ carried u 0 ++ carried w p ++ z =
    ap (λ k. carried k 0) (three_parts s ms) ∙ carried_parts u w v (length w) refl in
    parts-ls
    ∙ ap (λ k. carried u 0 ++ k ++ z)
    (same_window c hc (carried u 0) (carried w p) (carried x p) z (omega (arith, carried_few w p)) (carried_as_many x w p alike)
    (ap (fed_all c) (sym parts-ls) ∙ e ∙ ap (fed_all c) parts-ms))
    ∙ sym parts-ms

-- ---- bytes and their bits

same_bytes : (xs ys : List ℕ) → Bytes xs → Bytes ys → sent_bits xs ≡ sent_bits ys → xs ≡ ys
same_bytes [] [] fx fy e = refl
same_bytes [] (y ∷ ys) fx fy e = absurd (omega (arith, ap length e))
same_bytes (x ∷ xs) [] fx fy e = absurd (omega (arith, ap length e))
same_bytes (x ∷ xs) (y ∷ ys) fx fy e =
    ap₂ (λ k ks. k ∷ ks)
    (sym (number-bits 8 x fx.0) ∙ ap (λ bs. number (take 8 bs)) e ∙ number-bits 8 y fy.0)
    (same_bytes xs ys fx.1 fy.1 (ap (drop 8) e))

sent_bits-++ : (xs ys : List ℕ) → sent_bits (xs ++ ys) ≡ sent_bits xs ++ sent_bits ys
sent_bits-++ [] ys = refl
sent_bits-++ (x ∷ xs) ys = ap (λ bs. bits 8 x ++ bs) (sent_bits-++ xs ys) ∙ sym (append_assoc (bits 8 x) (sent_bits xs) (sent_bits ys))

-- ---- the register after a frame

shifts_zero : (n : ℕ) → shifts n 0 ≡ 0
unfolding shifts shifted
shifts_zero zero = refl
shifts_zero (suc n) = shifts_zero n

two_more : (xs : List ℕ) (low high : ℕ) → low < 256 → high < 256
    → crc_of (xs ++ (low ∷ high ∷ [])) ≡ shifts 16 (bit_xor (crc_of xs) (low + high * 256))
unfolding number
two_more xs low high hl hh =
    ap (fed_all 0xFFFF) (sent_bits-++ xs (low ∷ high ∷ []))
    ∙ fed_all-++ 0xFFFF (sent_bits xs) (sent_bits (low ∷ high ∷ []))
    ∙ all_at_once (crc_of xs) (sent_bits (low ∷ high ∷ []))
    ∙ ap (λ y. shifts 16 (bit_xor (crc_of xs) y)) (omega (arith, number-bits 8 low hl, number-bits 8 high hh))

zero_after_frame : (m : List ℕ) → crc_of (framed m) ≡ 0
zero_after_frame m =
    let c = crc_of m in
    let small : c < 2 ^ 16 = fed_all-lt 0xFFFF (sent_bits m) (omega arith) in
    two_more m (c % 256) (c / 256) (omega arith) (omega arith)
    ∙ ap (λ y. shifts 16 (bit_xor c y)) (let back : c % 256 + c / 256 * 256 ≡ c = omega arith in back)
    ∙ ap (shifts 16) (xor_self c) ∙ shifts_zero 16

-- two frames whose levels agree but for 16 in a row are the same
pub same_frame : (m n : List ℕ) → Message m → Message n → length (frame_levels n) ≡ length (frame_levels m) → (s : ℕ)
    → ((k : ℕ) → k < s → get_or (frame_levels n) k false ≡ get_or (frame_levels m) k false)
    → ((k : ℕ) → s + 16 ≤ k → get_or (frame_levels n) k false ≡ get_or (frame_levels m) k false)
    → framed n ≡ framed m
same_frame m n okm okn long s before after =
    same_bytes (framed n) (framed m) (bytes-framed n okn) (bytes-framed m okm)
    (sym (carried_levels (framed n))
    ∙ same_carried 0xFFFF (omega arith) s (frame_levels n) (frame_levels m) long before after (at_zero n ∙ sym (at_zero m))
    ∙ carried_levels (framed m))
  where
    at_zero : (w : List ℕ) → fed_all 0xFFFF (carried (frame_levels w) 0) ≡ 0
    at_zero w = ap (fed_all 0xFFFF) (carried_levels (framed w)) ∙ zero_after_frame w
