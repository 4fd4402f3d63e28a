use Rattle.std.proofs.Common.{◌≡◌, ◌*◌, ◌<◌, sym, ap, ◌∙◌, arith}
use Rattle.model.specs.Bits.{bit}
use Rattle.frame.specs.Reader.{bytes_of}
use Rattle.frame.specs.declared.reader.Phase.TheVariants.{Inside}
use Rattle.frame.proofs.Steps.{few_left, stop_heard, bit_heard}
use Rattle.frame.proofs.reader.FrameReader.hear.Goals as goal
use Rattle.frame.proofs.reader.FrameReader.hear.Goals.{then-level, else-level}

pub returns-in-Inside-eq0-default-clause-step : goal.returns-in-Inside-eq0-default-clause-step
returns-in-Inside-eq0-default-clause-step c =
    let r = c.args.self.now in
    let a = c.in-Inside-eq0-default in
    stop_heard c.args.level r.phase (bytes_of r) a.value (a.is ∙ ap (λ n. Inside n a.value) (sym a.left-is ∙ a.left-test)) (omega arith)
    ∙ c.end_byte.ensures.step

pub returns-after-level-clause-step : goal.returns-after-level-clause-step
returns-after-level-clause-step c =
    let r = c.args.self.now in
    let a = c.in-Inside in
    let level = c.args.level in
    let some : 0 < a.left = let not_zero = rw a.is at a.left-test.1 in omega (arith, not_zero) in
    let few = few_left r.phase r.count r.bytes a.left a.value a.is r.fits in
    let top : c.if-level.self ≡ bit level * 128 =
    elim c.if-level.branch [
      | then-level w ↦ w.self-is ∙ ap (λ b. bit b * 128) (sym w.if-level.true)
      | else-level w ↦ w.self-is ∙ ap (λ b. bit b * 128) (sym w.if-level.false)
    ] in
    bit_heard level r.phase (bytes_of r) a.left a.value c.if-level.self a.is some few (omega arith) top
