-- What a burst is refused with, and what it leaves of one controller, and of the caller's buffer; a refused one leaves both as found.
use Rattle.std.specs.Prelude.{ℕ, Bool, cond, not, List, [], ◌∷◌, length, ◌==◌, nat_lt}
use Rattle.model.specs.Controller.{Controller}
use Rattle.model.specs.Operations.{burst, first_of, refuses_write, refuses_read, put_into}
use Rattle.model.specs.Registers.{Access, readable, writable, access_of, register_of, last_register, rx_number, tx_number}
use Rattle.model.specs.RegisterRule.{writes_all, gives_all, leaves_all}
use Rattle.controller.specs.declared.burst.Direction.{Direction}
use Rattle.controller.specs.declared.burst.Direction.TheVariants.{Write, Read}

-- a host may move bytes this way
abbrev pub allows : Access → Direction → Bool
allows a Write = writable a
allows a Read = readable a

-- the register that takes or gives several bytes at once
abbrev pub burst_number : Direction → ℕ
burst_number Write = tx_number
burst_number Read = rx_number

-- what writes and reads are both refused with: 3: no such register; 4: no access; 5: number of bytes
abbrev pub refuses_burst : Direction → (register n : ℕ) → List (Bool × ℕ)
refuses_burst way r n =
    (nat_lt last_register r, 3)
    ∷ (not (allows (access_of r) way), 4)
    ∷ (not (burst (r == burst_number way) n), 5)
    ∷ []

-- the controller after a write
unfoldable pub after_write : (register : ℕ) (bytes : List ℕ) → Controller → Controller
after_write r vs c = cond (first_of (refuses_write r vs c) == 0) (writes_all (register_of r) vs c) c

-- the controller after a read of n bytes into a buffer from a place on
unfoldable pub after_read : (register n place buffer : ℕ) → Controller → Controller
after_read r n place buffer c = cond (first_of (refuses_read r n place buffer) == 0) (leaves_all (register_of r) n c) c

-- the buffer after it
unfoldable pub buffer_read : (register n place : ℕ) → Controller → List ℕ → List ℕ
buffer_read r n place c buffer =
    cond (first_of (refuses_read r n place (length buffer)) == 0) (put_into buffer place (gives_all (register_of r) n c)) buffer
