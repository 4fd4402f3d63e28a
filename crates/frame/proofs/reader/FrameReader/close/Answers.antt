use Rattle.std.proofs.Common.{sym, ap, ◌∙◌, arith}
use Rattle.frame.specs.Reader.{bytes_of}
use Rattle.frame.specs.declared.reader.Phase.TheVariants.{Inside}
use Rattle.frame.proofs.Steps.{whole_byte}
use Rattle.frame.proofs.reader.FrameReader.close.Goals as goal

pub returns-in-Inside-eq0-default-clause-bytes : goal.returns-in-Inside-eq0-default-clause-bytes
returns-in-Inside-eq0-default-clause-bytes c =
    let r = c.args.self.now in
    let a = c.in-Inside-eq0-default in
    c.keep.ensures.more
    ∙ sym (whole_byte r.phase (bytes_of r) a.value (a.is ∙ ap (λ n. Inside n a.value) (sym a.left-is ∙ a.left-test)) (omega arith))
