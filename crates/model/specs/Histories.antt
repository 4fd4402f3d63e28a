-- Histories: lists of operations on a table that was once new.
use Rattle.std.specs.Prelude.{◌≡◌, ℕ, ◌+◌, ◌≤◌, Bool, List, [], ◌∷◌, ◌++◌}
use Rattle.model.specs.Levels.{Bytes}
use Rattle.model.specs.Controller.{Table}
use Rattle.model.specs.Operations.{Operation, write, read, bit_time, malformed, then, Outcome, refused, wrote, gave, answered, outcome}
use Rattle.model.specs.Calls.{new_table}

-- the table after a list of operations
abbrev pub after_all : List Operation → Table → Table
after_all [] t = t
after_all (o ∷ os) t = after_all os (then o t)

-- what each of them gives
abbrev pub outcomes : List Operation → Table → List Outcome
outcomes [] t = []
outcomes (o ∷ os) t = outcome o t ∷ outcomes os (then o t)

-- what holds of each operation and the table that it meets
abbrev pub Along : (Operation → Table → Type 0) → List Operation → Table → Type 0
Along P [] t = Unit {0}
Along P (o ∷ os) t = P o t × Along P os (then o t)

-- a count over a history
abbrev pub total : (Operation → Table → ℕ) → List Operation → Table → ℕ
total f [] t = 0
total f (o ∷ os) t = f o t + total f os (then o t)

-- the level that an outcome tells of
abbrev pub levels_heard : Outcome → List Bool
levels_heard (refused n) = []
levels_heard wrote = []
levels_heard (gave xs) = []
levels_heard (answered level ms) = level ∷ []

-- the levels of the bit times of a history
abbrev pub levels_of : List Operation → Table → List Bool
levels_of [] t = []
levels_of (o ∷ os) t = levels_heard (outcome o t) ++ levels_of os (then o t)

-- what is written are bytes
abbrev pub Written : Operation → Type 0
Written (write k r vs) = Bytes vs
Written (read k r n place buffer) = Unit {0}
Written (bit_time pulled) = Unit {0}
Written (malformed k fault) = Unit {0}

-- the same of a list of operations
abbrev pub AllWritten : List Operation → Type 0
AllWritten [] = Unit {0}
AllWritten (o ∷ os) = Written o × AllWritten os

-- a table of n controllers, 1 to 16, that was once new and has met these operations since
pub record SinceNew (n : ℕ) (past : List Operation) (t : Table) : Type 0 where
  pub some : 1 ≤ n
  pub few : n ≤ 16
  pub bytes : AllWritten past
  pub is : t ≡ after_all past (new_table n)
