-- The registers of the code by their numbers.
use Rattle.std.specs.Prelude.{◌≡◌, ℕ, ◌<◌, Result, MatchResult}
use Rattle.model.specs.Registers.{Register as ModelRegister, last_register, register_of}
use Rattle.controller.specs.declared.refusal.Refusal.{Refusal}
use Rattle.controller.specs.declared.refusal.Refusal.TheVariants.{NoRegister}
use Rattle.controller.specs.declared.register.Register.{Register}
use Rattle.controller.specs.declared.register.Register.TheVariants.{Version, Setting, IdleWaitLen, TxWaitLen, Filter, DivLsL, DivLsH, DivHsL, DivHsH, IntFlag, IntMask, Rx, Tx, RxCtrl, TxCtrl, RxAddr, RxPageFlag, Filter1, Filter2}

-- a register's number is its place in the table of registers
abbrev pub place : Register → ℕ
place Version = 0x00
place Setting = 0x01
place IdleWaitLen = 0x02
place TxWaitLen = 0x03
place Filter = 0x04
place DivLsL = 0x05
place DivLsH = 0x06
place DivHsL = 0x07
place DivHsH = 0x08
place IntFlag = 0x09
place IntMask = 0x0A
place Rx = 0x0B
place Tx = 0x0C
place RxCtrl = 0x0D
place TxCtrl = 0x0E
place RxAddr = 0x0F
place RxPageFlag = 0x10
place Filter1 = 0x11
place Filter2 = 0x12

-- the register as the rules have it
abbrev pub ruled : Register → ModelRegister
ruled r = register_of (place r)

-- the register of a number, or the refusal of one above the last
abbrev pub Found : ℕ → Result Register Refusal → Type 0
Found n found = MatchResult found (λ r. place r ≡ n) (λ e. (e ≡ NoRegister) × (last_register < n))
