use Rattle.model.specs.Operations.{first_of, refuses_write}
use Rattle.controller.specs.View.{node}
use Rattle.controller.proofs.Outcomes.{refused_exit, first_decides}
use Rattle.controller.proofs.chip.Controller.write.Goals as goal

pub returns-in_err-found-clause-refuses : goal.returns-in_err-found-clause-refuses
returns-in_err-found-clause-refuses c =
    let why = c.in_err-found.field-0.0 in
    let tests = refuses_write c.args.register c.args.bytes.now (node c.args.self.now) in
    refused_exit c.from_residual.result why (first_of tests) c.from_residual.ensures.1 (first_decides why 3 tests c.in_err-found.ensures.refuses)
