-- Worked examples, as the entries of one table.
use Rattle.std.specs.Prelude.{◌≡◌, ℕ, zero, suc, ◌<◌, Bool, true, false, List, [], ◌∷◌, ◌++◌, length}
use Rattle.model.specs.Bits.{reversed}
use Rattle.model.specs.Arbitration.{KeepsLine}
use Rattle.model.specs.Crc.{crc_of}
use Rattle.model.specs.Frames.{length_byte, Message, framed, frame_levels}
use Rattle.model.specs.Filter.{Filters, accepts}
use Rattle.model.specs.Registers.{rx_number, tx_number, tx_ctrl_number}
use Rattle.model.specs.Controller.{Table, is_free}
use Rattle.model.specs.BitTime.{Marks}
use Rattle.model.specs.Operations.{Operation, write, read, bit_time, at, sized, refusal, Outcome, gave, answered, outcome}
use Rattle.model.specs.Wires.{spi, i2c}
use Rattle.model.specs.Calls.{new_table}
use Rattle.model.specs.Histories.{after_all}

-- the kinds of entries
pub data Example : Type 0 where
  crc_is : (message : List ℕ) (crc low high : ℕ) → Example
  goes_before : (source its_reversed other other_reversed : ℕ) → Example
  takes_levels : (data_bytes count : ℕ) → Example
  start_gets : (length_byte number : ℕ) → Example
  filter_says : (filters : Filters) (source destination : ℕ) (accepted : Bool) → Example
  -- what an operation gives in a new table of so many controllers, after others
  history_gives : (controllers : ℕ) (before : List Operation) (operation : Operation) (given : Outcome) → Example
  -- which operation a transfer frames
  transfer_is : (transfer operation : Operation) → Example

-- what each kind of entry says
abbrev pub Holds : Example → Type 0
Holds (crc_is xs crc low high) = (crc_of xs ≡ crc) × (framed xs ≡ xs ++ (low ∷ high ∷ []))
Holds (goes_before a ra b rb) = (reversed a ≡ ra) × (reversed b ≡ rb) × (ra < rb) × KeepsLine a b
Holds (takes_levels l n) = (xs : List ℕ) → Message xs → length_byte xs ≡ l → length (frame_levels xs) ≡ n
Holds (start_gets l number) = (t : Table) (k : ℕ) → sized t ≡ true → k < length t
    → is_free (at t k).tx.state ≡ true → length_byte (at t k).tx.written ≡ l
    → refusal (write k tx_ctrl_number (0x02 ∷ [])) t ≡ number
Holds (filter_says f source destination accepted) = accepts f source destination ≡ accepted
Holds (history_gives n before o given) = outcome o (after_all before (new_table n)) ≡ given
Holds (transfer_is t o) = t ≡ o

-- FILTER 0x0D and FILTER1 0x20, FILTER2 new
abbrev pub two_filters : Filters
two_filters = record { filter = 0x0D; filter1 = 0x20; filter2 = 0xFF }

-- a page for controller k, with its START
abbrev pub started : ℕ → List ℕ → List Operation
started k page = write k tx_number page ∷ write k tx_ctrl_number (0x02 ∷ []) ∷ []

-- so many unpulled bit times
abbrev pub quiet : ℕ → List Operation
quiet zero = []
quiet (suc n) = bit_time false ∷ quiet n

-- marks that say at most that a controller began or drew back
abbrev pub marked : Bool → Bool → Marks
marked began drew_back = record { began = began; drew_back = drew_back; sent = false; gave_up = false; made_ready = false }

-- 0C 0D 01 CD, its START, and 30 bit times: it begins in the next
abbrev pub one_waits : List Operation
one_waits = started 0 (0x0C ∷ 0x0D ∷ 0x01 ∷ 0xCD ∷ []) ++ quiet 30

-- the table
abbrev pub worked_examples : List Example
worked_examples =
    crc_is (0x0C ∷ 0x0D ∷ 0x01 ∷ 0xCD ∷ []) 0xB252 0x52 0xB2
    ∷ goes_before 0x0C 0x30 0x0D 0xB0
    ∷ takes_levels 0 50
    ∷ takes_levels 253 2580
    ∷ start_gets 253 0
    ∷ start_gets 254 6
    ∷ filter_says two_filters 0x0C 0x20 true
    ∷ filter_says two_filters 0x0C 0x21 false
    -- a new controller with a page begins in bit time 31, and not before
    ∷ history_gives 1 (started 0 (0x0C ∷ 0x0D ∷ 0x00 ∷ []) ++ quiet 29) (bit_time false) (answered true (marked false false ∷ []))
    ∷ history_gives 1 (started 0 (0x0C ∷ 0x0D ∷ 0x00 ∷ []) ++ quiet 30) (bit_time false) (answered false (marked true false ∷ []))
    -- 60 bit times later another controller has the frame as a page, zeros behind
    ∷ history_gives 2 (one_waits ++ quiet 60) (read 1 rx_number 6 0 6) (gave (0x0C ∷ 0x0D ∷ 0x01 ∷ 0xCD ∷ 0 ∷ 0 ∷ []))
    -- pulled in the lowest data bit, it is broken: saved under SETTING bit 3, the flag is the place of its sixth byte
    ∷ history_gives 2 (write 1 0x01 (0x08 ∷ []) ∷ one_waits ++ quiet 31 ++ (bit_time true ∷ []) ++ quiet 28) (read 1 0x10 1 0 1) (gave (5 ∷ []))
    -- 0x0D begins with 0x0C and draws back in the first source bit
    ∷ history_gives 2 (started 1 (0x0D ∷ 0x0C ∷ 0x00 ∷ []) ++ one_waits ++ quiet 1) (bit_time false) (answered false (marked false false ∷ marked false true ∷ []))
    -- FILTER written over SPI, and read over I2C by controller 1
    ∷ transfer_is (spi 1 (0x84 ∷ 0x0D ∷ []) 0) (write 1 0x04 (0x0D ∷ []))
    ∷ transfer_is (i2c 1 (256 ∷ 0xC2 ∷ 0x04 ∷ 256 ∷ 0xC3 ∷ 0 ∷ 257 ∷ []) 1) (read 1 0x04 1 0 1)
    ∷ []

-- each entry of a list holds
abbrev pub Every : (Example → Type 0) → List Example → Type 0
Every P [] = Unit {0}
Every P (e ∷ es) = P e × Every P es
