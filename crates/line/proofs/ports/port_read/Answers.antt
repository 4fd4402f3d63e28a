use Rattle.std.proofs.Common.{length, sym, ap, ◌∙◌, arith}
use Rattle.std.proofs.lemmas.List.{get_or-map}
use Rattle.std.proofs.lemmas.Grind.{common_steps}
use Rattle.controller.specs.Bursts.{after_read, buffer_read}
use Rattle.controller.specs.View.{node, nodes}
use Rattle.model.specs.Controller.{new}
use Rattle.model.specs.Operations.{read, refusal, accepted, then, done}
use Rattle.model.specs.RegisterRule.{gives_all, leaves_all}
use Rattle.model.specs.Registers.{register_of}
use Rattle.line.proofs.Buffers.{buffer_either, buffer_kept}
use Rattle.line.proofs.Views.{changed_or_not}
use Rattle.line.proofs.ports.port_read.Goals as goal

pub returns-in_err-check_controller-clause-buffer : goal.returns-in_err-check_controller-clause-buffer
unfolding accepted refusal
returns-in_err-check_controller-clause-buffer c =
    let buffer = c.args.buffer.now in
    buffer_kept (read c.args.controller c.args.register c.args.count c.args.place (length buffer)) (nodes c.args.table.now) buffer
    (grind (arith, common_steps, c.in_err-check_controller.ensures))

pub returns-clause-refuses : goal.returns-clause-refuses
unfolding refusal
returns-clause-refuses c = grind (arith, common_steps)

pub returns-clause-after : goal.returns-clause-after
unfolding after_read accepted then done
returns-clause-after c =
    changed_or_not node new (leaves_all (register_of c.args.register) c.args.count) c.args.table.now c.args.controller _ _ _ c.read.new.self
    c.in_ok-check_controller.ensures.1 c.read.ensures.after (sym c.read.ensures.refuses ∙ returns-clause-refuses c)

pub returns-clause-buffer : goal.returns-clause-buffer
unfolding buffer_read
returns-clause-buffer c =
    let buffer = c.args.buffer.now in
    let here = get_or-map node c.args.table.now c.args.controller c.index-table-controller.result new c.in_ok-check_controller.ensures.1 in
    buffer_either (read c.args.controller c.args.register c.args.count c.args.place (length buffer)) (nodes c.args.table.now) buffer _ _ _
    c.read.ensures.buffer (sym c.read.ensures.refuses ∙ returns-clause-refuses c) (ap (gives_all (register_of c.args.register) c.args.count) (sym here))
