-- What a bit time answers in the code, as the rules have it.
use Rattle.std.specs.Prelude.{List, map, take, Ok, Err, Result}
use Rattle.controller.specs.declared.marks.Marks.{Marks}
use Rattle.controller.specs.declared.refusal.Refusal.{Refusal}
use Rattle.controller.specs.Marks.{marked}
use Rattle.controller.specs.Refusal.{number_of}
use Rattle.model.specs.Operations.{Outcome, refused, answered}
use Rattle.line.specs.declared.answer.Answer.{Answer}

-- the marks of the controllers, by their numbers
abbrev pub marks_of : Answer → List Marks
marks_of a = take a.controllers a.marks

-- the level and the marks, or the number of the refusal
abbrev pub outcome_of : Result Answer Refusal → Outcome
outcome_of (Ok a) = answered a.level (map marked (marks_of a))
outcome_of (Err e) = refused (number_of e)
