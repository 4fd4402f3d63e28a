-- What levels make of a reader of the code.
use Rattle.std.proofs.Common.{◌≡◌, ℕ, suc, ◌+◌, ◌-◌, ◌*◌, ◌/◌, ◌<◌, ◌≤◌, Bool, true, false, leb, List, [], ◌∷◌, ◌++◌, length, get_or, drop, sym, refl, ap, ◌∙◌, subst, arith, length-drop}
use Rattle.std.proofs.lemmas.List.{drop_more, drop-append-le}
use Rattle.std.proofs.lemmas.Bool.{and_parts, leb-true}
use Rattle.model.specs.Bits.{bit, bits}
use Rattle.model.specs.Frames.{length_byte}
use Rattle.frame.specs.Phase.{goes_on, sound}
use Rattle.model.specs.Reading.{Reading, inside, goes, reads, bytes_read, judged, heard, heard_on}
use Rattle.model.proofs.Bits.{length-bits, bits-top, number-bits}
use Rattle.frame.specs.declared.reader.Phase.{Phase}
use Rattle.frame.specs.declared.reader.Phase.TheVariants.{Inside}
use Rattle.frame.specs.declared.reader.Ending.{Ending}
use Rattle.frame.specs.declared.reader.Ending.TheVariants.{Right, Broken}
use Rattle.frame.specs.Reader.{standing, ends, ended_as}

-- at most eight bits of a byte are to come
pub few_left : (phase : Phase) (n : ℕ) (bs : List ℕ) (left value : ℕ) → phase ≡ Inside left value → sound phase n bs ≡ true → left ≤ 8
few_left phase n bs left value is ok =
    leb-true left 8 (and_parts (goes_on n (length_byte bs)) (leb left 8) (subst (λ p. sound p n bs ≡ true) is ok)).1

-- at the stop bit
pub stop_heard : (level : Bool) (phase : Phase) (xs : List ℕ) (value : ℕ) → phase ≡ Inside 0 value → value < 256
    → reads level (standing phase xs) ≡ judged level (xs ++ (value ∷ []))
stop_heard level phase xs value is byte =
    ap (λ p. reads level (standing p xs)) is ∙ ap (λ v. judged level (xs ++ (v ∷ []))) (number-bits 8 value byte)

-- a byte whose eight bits were read counts before its stop bit comes
pub whole_byte : (phase : Phase) (xs : List ℕ) (value : ℕ) → phase ≡ Inside 0 value → value < 256
    → bytes_read (standing phase xs) ≡ xs ++ (value ∷ [])
whole_byte phase xs value is byte = ap (λ p. bytes_read (standing p xs)) is ∙ ap (λ v. xs ++ (v ∷ [])) (number-bits 8 value byte)

-- a bit that comes in at the top of a byte, of whose eight the last `left` are still to come
bit-more : (left value : ℕ) (b : Bool) → left < 8 → value < 256
    → drop left (bits 8 (value / 2 + bit b * 128)) ≡ drop (suc left) (bits 8 value) ++ (b ∷ [])
bit-more left value b small byte =
    ap (drop left) (bits-top 7 (value / 2) b (omega arith))
    ∙ drop-append-le left (bits 7 (value / 2)) (b ∷ []) (omega (arith, length-bits 7 (value / 2)))

-- before it
pub bit_heard : (level : Bool) (phase : Phase) (xs : List ℕ) (left value top : ℕ) → phase ≡ Inside left value
    → 0 < left → left ≤ 8 → value < 256 → top ≡ bit level * 128
    → reads level (standing phase xs) ≡ goes (standing (Inside (left - 1) (value / 2 + top)) xs)
bit_heard level phase xs left value top is some few byte e =
    let one : left ≡ suc (left - 1) = omega arith in
    ap (λ p. reads level (standing p xs)) (is ∙ ap (λ n. Inside n value) one)
    ∙ ap (λ bs. goes (inside xs (left - 1) bs)) (sym (bit-more (left - 1) value level (omega arith) byte))
    ∙ ap (λ n. goes (standing (Inside (left - 1) (value / 2 + n)) xs)) (sym e)

-- ---- many levels

-- a frame that ended at a level has the others left over
left_over : (e : Ending) (xs : List ℕ) (rest : List Bool) → heard_on rest (ends e xs) ≡ ended_as e xs (length rest)
left_over Right xs [] = refl
left_over Right xs (l ∷ rest) = refl
left_over Broken xs [] = refl
left_over Broken xs (l ∷ rest) = refl

pub heard-end : (ls : List Bool) (i : ℕ) (r : Reading) (e : Ending) (xs : List ℕ) → i < length ls
    → reads (get_or ls i false) r ≡ ends e xs → heard r (drop i ls) ≡ ended_as e xs (length ls - (i + 1))
heard-end ls i r e xs h s =
    ap (heard r) (drop_more ls i false h) ∙ ap (heard_on (drop (i + 1) ls)) s ∙ left_over e xs (drop (i + 1) ls)
    ∙ ap (ended_as e xs) (length-drop (i + 1) ls)
