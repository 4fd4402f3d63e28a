-- What a bit time answers, as the rules have it.
use Rattle.model.specs.BitTime.{Marks as ModelMarks}
use Rattle.controller.specs.declared.marks.Marks.{Marks}

-- for one controller
abbrev pub marked : Marks → ModelMarks
marked m = record {
  began = m.began;
  drew_back = m.drew_back;
  sent = m.sent;
  gave_up = m.gave_up;
  made_ready = m.made_ready;
}
