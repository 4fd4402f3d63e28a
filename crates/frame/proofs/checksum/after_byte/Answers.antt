use Rattle.std.proofs.Common.{◌≡◌, ◌/◌, ◌%◌, ◌<◌, get_or, sym, ap, ◌∙◌, arith}
use lib.Bits.{bit_xor, xor_lt}
use Rattle.std.proofs.lemmas.List.FromFn.{get_or-map-range_with_len}
use Rattle.model.specs.Crc.{shifted}
use Rattle.model.proofs.CrcRegister.{shifts, fed-byte}
use Rattle.frame.proofs.checksum.after_byte.Goals as goal

-- the table is eight shifts of each byte, which antt computes
pub returns : goal.returns
unfolding shifts shifted
returns c =
    let r = c.args.register in
    let x = c.args.byte in
    let i = c.from-2.result in
    let h : x < 256 = omega arith in
    let is : i ≡ bit_xor (r % 256) x = c.from-2.ensures ∙ ap (λ bs. bit_xor (get_or bs 0 0) x) c.to_le_bytes.ensures in
    let lt : i < 256 = omega (arith, is, xor_lt 8 (r % 256) x (omega arith) h) in
    let high : c.from.result ≡ r / 256 = let e = c.from.ensures ∙ ap (λ bs. get_or bs 1 0) c.to_le_bytes.ensures in omega arith in
    let entry = get_or-map-range_with_len (shifts 8) 0 256 i i 0 lt (omega arith) in
    rw high (ap (bit_xor (r / 256)) (entry ∙ ap (shifts 8) is) ∙ sym (fed-byte r x h))
