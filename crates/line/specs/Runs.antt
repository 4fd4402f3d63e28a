-- What a run answers in the code, as the rules have it.
use Rattle.std.specs.Prelude.{ℕ, Ok, Err, Result}
use Rattle.controller.specs.declared.refusal.Refusal.{Refusal}

-- the number of bit times that it made; a refused one makes none
abbrev pub times_of : Result ℕ Refusal → ℕ
times_of (Ok n) = n
times_of (Err e) = 0
