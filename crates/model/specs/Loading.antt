-- A message on its way into a TX page: what is written and STARTed is what waits.
use Rattle.std.specs.Prelude.{◌≡◌, ℕ, ◌<◌, ◌≤◌, true, ◌≢◌, List, [], ◌∷◌, ◌++◌, map, length, drop}
use Rattle.std.specs.List.{flat_map}
use Rattle.model.specs.Frames.{Message, frame_levels, message}
use Rattle.model.specs.Registers.{tx_number, tx_ctrl_number}
use Rattle.model.specs.Controller.{waiting, Controller, Table, is_free}
use Rattle.model.specs.BitTime.{frame_of}
use Rattle.model.specs.Operations.{Operation, write, at, max_burst, accepted}
use Rattle.model.specs.Histories.{Along, after_all, SinceNew}

-- the write pointer zeroed, bursts to TX, START
abbrev pub loading : (controller : ℕ) (bursts : List (List ℕ)) → List Operation
loading k bursts = write k tx_ctrl_number (0x01 ∷ []) ∷ map (write k tx_number) bursts ++ (write k tx_ctrl_number (0x02 ∷ []) ∷ [])

-- each burst has 1 to 256 bytes
abbrev pub Bursts : List (List ℕ) → Type 0
Bursts [] = Unit {0}
Bursts (b ∷ bs) = (1 ≤ length b) × (length b ≤ max_burst) × Bursts bs

-- an operation that is not refused
abbrev pub Accepted : Operation → Table → Type 0
Accepted o t = accepted o t ≡ true

-- A page waits that carries this message. It is the page that was written, with what stood behind the message's
-- place; the other one is written next, from place 0 on; and all else is as it was.
pub record Carries (m : List ℕ) (before after : Controller) : Type 0 where
  pub waits : after.tx.state ≡ waiting
  pub holds : message after.tx.other ≡ m
  pub sends : frame_of after.tx ≡ frame_levels m
  pub behind : after.tx.other ≡ m ++ drop (length m) before.tx.written
  pub next : after.tx.written ≡ before.tx.other
  pub pointer : after.tx.pointer ≡ 0
  pub conflicts : after.tx.conflicts ≡ before.tx.conflicts
  pub tx_cd : after.tx.tx_cd ≡ before.tx.tx_cd
  pub tx_error : after.tx.tx_error ≡ before.tx.tx_error
  pub settings : after.settings ≡ before.settings
  pub rx : after.rx ≡ before.rx

-- what loading a message makes of a table: nothing is refused, the page carries it, and the others stay
pub record Loaded (k : ℕ) (bursts : List (List ℕ)) (t : Table) : Type 0 where
  pub taken : Along Accepted (loading k bursts) t
  pub carries : Carries (flat_map (λ b. b) bursts) (at t k) (at (after_all (loading k bursts) t) k)
  pub others : (j : ℕ) → j ≢ k → at (after_all (loading k bursts) t) j ≡ at t j

-- in every history: a message that is loaded where no page waits, however it is cut into bursts
abbrev pub Loading : Type 0
Loading = (n : ℕ) (past : List Operation) (t : Table) → SinceNew n past t → (k : ℕ) → k < n → is_free (at t k).tx.state ≡ true
    → (bursts : List (List ℕ)) → Bursts bursts → Message (flat_map (λ b. b) bursts) → Loaded k bursts t
