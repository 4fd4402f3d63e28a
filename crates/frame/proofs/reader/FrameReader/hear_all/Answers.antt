use Rattle.std.proofs.Common.{sym, ap, ◌∙◌, arith}
use Rattle.frame.specs.Reader.{bytes_of, reading, stepped}
use Rattle.frame.proofs.Steps.{heard-end}
use Rattle.frame.proofs.reader.FrameReader.hear_all.Goals as goal

pub returns-in-Some : goal.returns-in-Some
returns-in-Some c = (
  sym c.loop-i.invariant
      ∙ heard-end c.args.levels.now c.loop-i.i (reading c.loop-i.self) c.in-Some.ending (bytes_of c.hear.new.self) c.loop-i-test.true
      (c.hear.ensures.step ∙ ap (λ a. stepped a c.hear.new.self) c.in-Some.is),
  omega arith,
)
