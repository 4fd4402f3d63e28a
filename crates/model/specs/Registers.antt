-- The registers: names, numbers, access, and which values a write admits whatever the controller holds.
use Rattle.std.specs.Prelude.{ℕ, ◌+◌, Bool, true, false, cond, not, ◌&&◌, List, [], ◌∷◌, Some, None, codes, Option, ◌==◌, bit_and, nat_le, nat_lt, slice_index_or}
use Rattle.std.specs.Str.{bytes_eq}
use Rattle.model.specs.Bits.{has}

-- the registers that keep what is written; the dividers by place, from DIV_LS_L to DIV_HS_H
pub data Stored : Type 0 where
  setting : Stored
  idle_wait_len : Stored
  tx_wait_len : Stored
  filter : Stored
  filter1 : Stored
  filter2 : Stored
  divider : ℕ → Stored
  int_mask : Stored

-- all registers
pub data Register : Type 0 where
  version : Register
  stored : Stored → Register
  int_flag : Register
  rx : Register
  tx : Register
  rx_ctrl : Register
  tx_ctrl : Register
  rx_addr : Register
  rx_page_flag : Register

-- what a host may do with a register
pub data Access : Type 0 where
  read_only : Access
  write_only : Access
  read_write : Access

-- a host may read it
abbrev pub readable : Access → Bool
readable read_only = true
readable write_only = false
readable read_write = true

-- a host may write it
abbrev pub writable : Access → Bool
writable read_only = false
writable write_only = true
writable read_write = true

-- a register with its name and its access
pub record Entry : Type 0 where
  pub name : List ℕ
  pub register : Register
  pub access : Access

-- an entry written out
abbrev pub entry : List ℕ → Register → Access → Entry
entry name register access = record { name = name; register = register; access = access }

-- a register's number is its place here
abbrev pub registers : List Entry
registers =
    entry (codes "VERSION") version read_only
    ∷ entry (codes "SETTING") (stored setting) read_write
    ∷ entry (codes "IDLE_WAIT_LEN") (stored idle_wait_len) read_write
    ∷ entry (codes "TX_WAIT_LEN") (stored tx_wait_len) read_write
    ∷ entry (codes "FILTER") (stored filter) read_write
    ∷ entry (codes "DIV_LS_L") (stored (divider 0)) read_write
    ∷ entry (codes "DIV_LS_H") (stored (divider 1)) read_write
    ∷ entry (codes "DIV_HS_L") (stored (divider 2)) read_write
    ∷ entry (codes "DIV_HS_H") (stored (divider 3)) read_write
    ∷ entry (codes "INT_FLAG") int_flag read_only
    ∷ entry (codes "INT_MASK") (stored int_mask) read_write
    ∷ entry (codes "RX") rx read_only
    ∷ entry (codes "TX") tx write_only
    ∷ entry (codes "RX_CTRL") rx_ctrl write_only
    ∷ entry (codes "TX_CTRL") tx_ctrl write_only
    ∷ entry (codes "RX_ADDR") rx_addr read_write
    ∷ entry (codes "RX_PAGE_FLAG") rx_page_flag read_only
    ∷ entry (codes "FILTER1") (stored filter1) read_write
    ∷ entry (codes "FILTER2") (stored filter2) read_write
    ∷ []

-- the highest register number
abbrev pub last_register : ℕ
last_register = 0x12

-- the numbers of the registers that a rule names by itself
abbrev pub rx_number : ℕ
rx_number = 0x0B

abbrev pub tx_number : ℕ
tx_number = 0x0C

abbrev pub rx_ctrl_number : ℕ
rx_ctrl_number = 0x0D

abbrev pub tx_ctrl_number : ℕ
tx_ctrl_number = 0x0E

-- the register of a number; no rule asks for one above the last
abbrev pub entry_of : ℕ → Entry
entry_of r = slice_index_or registers r (entry [] version read_only)

-- the register of a number
abbrev pub register_of : ℕ → Register
register_of r = (entry_of r).register

-- what may be done with it
abbrev pub access_of : ℕ → Access
access_of r = (entry_of r).access

-- the number of the first entry of this name, counted from n; an unknown name gives nothing
abbrev pub number_in : List Entry → ℕ → List ℕ → Option ℕ
number_in [] n name = None
number_in (e ∷ es) n name = cond (bytes_eq name e.name) (Some n) (number_in es (n + 1) name)

-- the number of a name
abbrev pub number_of : List ℕ → Option ℕ
number_of name = number_in registers 0 name

-- ---- admitted values

-- SETTING admits bits 0, 3, 4 and 5
abbrev pub setting_bits : ℕ
setting_bits = 0x39

-- which values a stored register takes
abbrev pub admits_stored : Stored → ℕ → Bool
admits_stored setting v = bit_and v setting_bits == v
admits_stored idle_wait_len v = nat_le 10 v
admits_stored tx_wait_len v = nat_le 1 v
admits_stored filter v = true
admits_stored filter1 v = true
admits_stored filter2 v = true
admits_stored (divider k) v = true
admits_stored int_mask v = true

-- RX_CTRL and TX_CTRL admit bits 0 to 4, and not bits 1 and 4 together
abbrev pub admits_control : ℕ → Bool
admits_control v = nat_lt v 32 && not (has v 1 && has v 4)
