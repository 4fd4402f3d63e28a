use Rattle.std.proofs.Common.{◌≡◌, drop}
use Rattle.model.specs.Reading.{heard}
use Rattle.frame.specs.Reader.{reading}
use Rattle.frame.proofs.reader.FrameReader.hear_all.Given as goal

-- what is left to hear leads where all leads
abbrev pub invariant-loop-i : goal.invariant-loop-i
invariant-loop-i l = heard (reading l.self) (drop l.i l.levels) ≡ heard (reading l.initial.self) l.levels
