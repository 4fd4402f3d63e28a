-- A control byte whose bits act from bit 0 up.
use Rattle.std.proofs.Common.{◌≡◌, ℕ, Bool, ap, ◌∙◌, ap₂}

-- steps for bits 0, 1, 2 with 3, and 4, each with its own bit of the byte, are what the byte does
pub bit_by_bit : {X : Type 0} (zero one : Bool → X → X) (two-three : Bool → Bool → X → X) (four : Bool → X → X) (bit : ℕ → Bool)
    (b0 b1 b2 b3 b4 : Bool) (x0 x1 x2 x3 x4 : X)
    → b0 ≡ bit 0 → b1 ≡ bit 1 → b2 ≡ bit 2 → b3 ≡ bit 3 → b4 ≡ bit 4
    → x1 ≡ zero b0 x0 → x2 ≡ one b1 x1 → x3 ≡ two-three b2 b3 x2 → x4 ≡ four b4 x3
    → x4 ≡ four (bit 4) (two-three (bit 2) (bit 3) (one (bit 1) (zero (bit 0) x0)))
bit_by_bit zero one two-three four bit b0 b1 b2 b3 b4 x0 x1 x2 x3 x4 e0 e1 e2 e3 e4 s1 s2 s3 s4 =
    s4 ∙ ap₂ four e4 (s3 ∙ ap (λ b. two-three b b3 x2) e2 ∙ ap₂ (two-three (bit 2)) e3 (s2 ∙ ap₂ one e1 (s1 ∙ ap (λ b. zero b x0) e0)))
