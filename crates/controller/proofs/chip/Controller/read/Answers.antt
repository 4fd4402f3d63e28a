use Rattle.std.proofs.Common.{◌≡◌, ℕ, length, ap, ◌∙◌, arith}
use Rattle.std.proofs.lemmas.Bool.Decides.{nat_tests}
use Rattle.model.specs.Operations.{first_of, refuses_read, put_into}
use Rattle.model.specs.Registers.{register_of}
use Rattle.model.specs.RegisterRule.{gives_all}
use Rattle.controller.specs.Bursts.{buffer_read}
use Rattle.controller.specs.Register.{place}
use Rattle.controller.specs.View.{node}
use Rattle.controller.proofs.Outcomes.{refused_exit, refused_leaves, accepted-leaves, first_decides, into_part}
use Rattle.controller.proofs.chip.Controller.read.Goals as goal

pub returns-in_err-found-clause-refuses : goal.returns-in_err-found-clause-refuses
returns-in_err-found-clause-refuses c =
    let why = c.in_err-found.field-0.0 in
    let tests = refuses_read c.args.register c.args.count c.args.place (length c.args.buffer.now) in
    refused_exit c.from_residual.result why (first_of tests) c.from_residual.ensures.1 (first_decides why 3 tests c.in_err-found.ensures.refuses)

pub returns-in_err-found-clause-buffer : goal.returns-in_err-found-clause-buffer
unfolding buffer_read
returns-in_err-found-clause-buffer c =
    let why = c.in_err-found.field-0.0 in
    let buffer = c.args.buffer.now in
    let tests = refuses_read c.args.register c.args.count c.args.place (length buffer) in
    let given = gives_all (register_of c.args.register) c.args.count (node c.args.self.now) in
    refused_leaves why (first_of tests) (put_into buffer c.args.place given) buffer (first_decides why 3 tests c.in_err-found.ensures.refuses)

pub returns-clause-buffer : goal.returns-clause-buffer
unfolding buffer_read
returns-clause-buffer c =
    let buffer = c.args.buffer.now in
    let start = node c.args.self.now in
    let tests = refuses_read c.args.register c.args.count c.args.place (length buffer) in
    let given = gives_all (register_of c.args.register) c.args.count start in
    let none : 0 ≡ first_of tests = grind (arith, nat_tests) in
    into_part (register_of (place c.in_ok-found.found)) start buffer c.read_all.new.part c.args.place c.args.count (grind (arith, nat_tests)) c.read_all.ensures.gives
    ∙ ap (λ (k : ℕ). put_into buffer c.args.place (gives_all (register_of k) c.args.count start)) c.in_ok-found.ensures.found
    ∙ accepted-leaves (first_of tests) (put_into buffer c.args.place given) buffer none
