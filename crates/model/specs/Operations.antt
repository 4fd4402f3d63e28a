-- The operations that make up a table's history: port writes, port reads and bit times, with what they turn away.
use Rattle.std.specs.Prelude.{ℕ, ◌+◌, Bool, true, cond, not, ◌&&◌, ◌||◌, List, [], ◌∷◌, ◌++◌, map, length, take, drop, ◌==◌, nat_le, nat_lt, slice_index, slice_index_or, slice_set}
use Rattle.model.specs.Registers.{last_register, rx_number, tx_number, readable, writable, access_of, register_of}
use Rattle.model.specs.Controller.{Controller, Table, new}
use Rattle.model.specs.RegisterRule.{writes_all, admits, gives_all, leaves_all}
use Rattle.model.specs.BitTime.{line_level, ticked, Marks, marks}

-- why a transfer frames no write or read: it has the shape of neither, or a device byte that is not this controller's
pub data WireFault : Type 0 where
  no_shape : WireFault
  other_device : WireFault

-- the refusal's number
abbrev pub fault_number : WireFault → ℕ
fault_number no_shape = 7
fault_number other_device = 8

-- A transfer on SPI or I2C wires is the port write or port read that it frames, or malformed (Wires).
pub data Operation : Type 0 where
  -- bytes for a register of a controller
  write : (controller register : ℕ) (bytes : List ℕ) → Operation
  -- so many bytes of a register of a controller, from a place on into a buffer of so many places
  read : (controller register count place buffer : ℕ) → Operation
  -- whether something outside pulls the line to 0
  bit_time : (pulled : Bool) → Operation
  -- a transfer to a controller that frames no write or read
  malformed : (controller : ℕ) (fault : WireFault) → Operation

-- controller i; one that is not in the table counts as new, so it never sends and is never idle
abbrev pub at : Table → ℕ → Controller
at t i = slice_index_or t i new

-- ---- what is turned away: the number of the first rule that fits, 0 if none does

-- a table has 1 to 16 places
abbrev pub table_size : ℕ → Bool
table_size n = nat_le 1 n && nat_le n 16

-- of such a size
abbrev pub sized : Table → Bool
sized t = table_size (length t)

-- tests with the numbers of their refusals: the first that holds decides
abbrev pub first_of : List (Bool × ℕ) → ℕ
first_of [] = 0
first_of (r ∷ rs) = cond r.0 r.1 (first_of rs)

-- 1: the table's size; 2: a controller that is not in it
abbrev pub refuses_place : (controller places : ℕ) → List (Bool × ℕ)
refuses_place k n = (not (table_size n), 1) ∷ (nat_le n k, 2) ∷ []

-- the same of a table
abbrev pub refuses_controller : ℕ → Table → List (Bool × ℕ)
refuses_controller k t = refuses_place k (length t)

-- the most bytes of a burst
abbrev pub max_burst : ℕ
max_burst = 256

-- a burst has one byte, or up to 256 at the register that takes several
abbrev pub burst : Bool → ℕ → Bool
burst several n = n == 1 || several && nat_le 1 n && nat_le n max_burst

-- 3: no such register; 4: not writable; 5: number of bytes; 6: value
abbrev pub refuses_write : ℕ → List ℕ → Controller → List (Bool × ℕ)
refuses_write r vs c =
    (nat_lt last_register r, 3)
    ∷ (not (writable (access_of r)), 4)
    ∷ (not (burst (r == tx_number) (length vs)), 5)
    ∷ (not (admits (register_of r) (slice_index vs 0) c), 6)
    ∷ []

-- 3: no such register; 4: not readable; 5: number of bytes; 10: the buffer
abbrev pub refuses_read : ℕ → ℕ → ℕ → ℕ → List (Bool × ℕ)
refuses_read r n place buffer =
    (nat_lt last_register r, 3)
    ∷ (not (readable (access_of r)), 4)
    ∷ (not (burst (r == rx_number) n), 5)
    ∷ (nat_lt buffer (place + n), 10)
    ∷ []

-- what an operation is refused with
unfoldable pub refusal : Operation → Table → ℕ
refusal (write k r vs) t = first_of (refuses_controller k t ++ refuses_write r vs (at t k))
refusal (read k r n place buffer) t = first_of (refuses_controller k t ++ refuses_read r n place buffer)
refusal (bit_time pulled) t = cond (sized t) 0 1
refusal (malformed k fault) t = first_of (refuses_controller k t ++ ((true, fault_number fault) ∷ []))

-- an operation that is not refused
unfoldable pub accepted : Operation → Table → Bool
accepted o t = refusal o t == 0

-- ---- what is done

-- the table after an operation that is not refused
unfoldable pub done : Operation → Table → Table
done (write k r vs) t = slice_set t k (writes_all (register_of r) vs (at t k))
done (read k r n place buffer) t = slice_set t k (leaves_all (register_of r) n (at t k))
done (bit_time pulled) t = map (ticked (line_level pulled t)) t
done (malformed k fault) t = t

-- a refusal leaves all as found
unfoldable pub then : Operation → Table → Table
then o t = cond (accepted o t) (done o t) t

-- what an operation gives
pub data Outcome : Type 0 where
  refused : ℕ → Outcome
  wrote : Outcome
  gave : List ℕ → Outcome
  answered : Bool → List Marks → Outcome

-- what it gives if it is not refused
abbrev pub result : Operation → Table → Outcome
result (write k r vs) t = wrote
result (read k r n place buffer) t = gave (gives_all (register_of r) n (at t k))
result (bit_time pulled) t = answered (line_level pulled t) (map (marks (line_level pulled t)) t)
result (malformed k fault) t = refused (fault_number fault)

-- what it gives
abbrev pub outcome : Operation → Table → Outcome
outcome o t = cond (accepted o t) (result o t) (refused (refusal o t))

-- ---- the caller's buffer

-- bytes put into a buffer from a place on; the rest stays
unfoldable pub put_into : List ℕ → ℕ → List ℕ → List ℕ
put_into buffer place bytes = take place buffer ++ bytes ++ drop (place + length bytes) buffer

-- a read that is not refused puts its bytes into the buffer from its place on
abbrev pub place_of : Operation → ℕ
place_of (write k r vs) = 0
place_of (read k r n place buffer) = place
place_of (bit_time pulled) = 0
place_of (malformed k fault) = 0

-- the bytes for the caller's buffer
abbrev pub bytes_given : Outcome → List ℕ
bytes_given (refused n) = []
bytes_given wrote = []
bytes_given (gave xs) = xs
bytes_given (answered level ms) = []

-- the caller's buffer after an operation
unfoldable pub buffer_after : Operation → Table → List ℕ → List ℕ
buffer_after o t buffer = put_into buffer (place_of o) (bytes_given (outcome o t))
