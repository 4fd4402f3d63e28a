-- The wires between a host and its controller: which port write or port read a transfer frames.
use Rattle.std.specs.Prelude.{ℕ, ◌+◌, ◌-◌, ◌*◌, ◌%◌, Bool, cond, not, ◌&&◌, List, [], ◌∷◌, length, drop, ◌==◌, nat_le, nat_lt, slice_index}
use Rattle.model.specs.Bits.{has}
use Rattle.model.specs.Operations.{Operation, write, read, malformed, no_shape, other_device}

-- ---- SPI

-- The first byte has bit 7 set for a write and the register in bits 6 to 0. A write's data follow; a read sends
-- a byte, not looked at, for each byte wanted. The reply goes to a buffer from place 0.
-- Without a first byte there is no shape.
unfoldable pub spi : (controller : ℕ) (sent : List ℕ) (buffer : ℕ) → Operation
spi k [] buffer = malformed k no_shape
spi k (x ∷ xs) buffer = cond (has x 7) (write k (x % 128) xs) (read k (x % 128) (length xs) 0 buffer)

-- ---- I2C

-- a transfer is a list of numbers: 0 to 255 a byte, 256 a start, 257 a stop
abbrev pub is_byte : ℕ → Bool
is_byte x = nat_lt x 256

-- a start condition
abbrev pub is_start : ℕ → Bool
is_start x = x == 256

-- a stop condition
abbrev pub is_stop : ℕ → Bool
is_stop x = x == 257

-- the bytes that a list begins with
abbrev pub leading : List ℕ → List ℕ
leading [] = []
leading (x ∷ xs) = cond (is_byte x) (x ∷ leading xs) []

-- what follows the bytes that a list begins with
abbrev pub behind : List ℕ → List ℕ
behind [] = []
behind (x ∷ xs) = cond (is_byte x) (behind xs) (x ∷ xs)

-- a stop, and nothing more
abbrev pub just_stop : List ℕ → Bool
just_stop xs = length xs == 1 && is_stop (slice_index xs 0)

-- what follows a start, or a stop and a start
abbrev pub after_restart : List ℕ → List ℕ
after_restart xs =
    cond (is_start (slice_index xs 0)) (drop 1 xs)
    (cond (is_stop (slice_index xs 0) && is_start (slice_index xs 1)) (drop 2 xs) [])

-- what a list of numbers is
pub data Shape : Type 0 where
  neither : Shape
  -- start, device, register, data, stop
  writing : (device register : ℕ) (bytes : List ℕ) → Shape
  -- start, device, register, start or stop and start, device again, a byte for each wanted, stop
  reading : (device register again wanted : ℕ) → Shape

-- which of these a list is
abbrev pub shape : List ℕ → Shape
shape ls =
    let head = leading (drop 1 ls) in
    let rest = behind (drop 1 ls) in
    let tail = leading (after_restart rest) in
    cond (not (is_start (slice_index ls 0))) neither
    (cond (nat_le 2 (length head) && just_stop rest) (writing (slice_index head 0) (slice_index head 1) (drop 2 head))
    (cond (length head == 2 && nat_le 1 (length tail) && just_stop (behind (after_restart rest)))
    (reading (slice_index head 0) (slice_index head 1) (slice_index tail 0) (length tail - 1)) neither))

-- controller k has pins k mod 4; its device byte says the direction in bit 0: this one for writing
abbrev pub device_for_write : ℕ → ℕ
device_for_write k = 0xC0 + 2 * (k % 4)

-- the same for reading
abbrev pub device_for_read : ℕ → ℕ
device_for_read k = 0xC1 + 2 * (k % 4)

-- bit 7 of the register byte is ignored
abbrev pub framed_by : ℕ → ℕ → Shape → Operation
framed_by k buffer neither = malformed k no_shape
framed_by k buffer (writing device r bytes) =
    cond (device == device_for_write k) (write k (r % 128) bytes) (malformed k other_device)
framed_by k buffer (reading device r again wanted) =
    cond (device == device_for_write k && again == device_for_read k) (read k (r % 128) wanted 0 buffer) (malformed k other_device)

-- a transfer over I2C; the reply goes to a buffer from place 0
unfoldable pub i2c : (controller : ℕ) (sent : List ℕ) (buffer : ℕ) → Operation
i2c k sent buffer = framed_by k buffer (shape sent)
