-- Where the line is a message's, each part of it was read.
use Rattle.std.proofs.Common.{◌∙◌, ap}
use Rattle.evaluation.specs.Messages.{message}
use Rattle.text_lines.proofs.Messages.{no_task, no_pair, no_heard, no_image, all_parts, name_with}
use Rattle.text_lines.proofs.reading.read_freely.Goals as goal

pub returns-in_default-clause-read : goal.returns-in_default-clause-read
returns-in_default-clause-read c = no_task c.args.plant.now c.args.task c.args.code.now c.args.line.now c.requires c.in_default.ensures

pub returns-in_default-pair_at-clause-read : goal.returns-in_default-pair_at-clause-read
returns-in_default-pair_at-clause-read c =
    no_pair c.args.plant.now c.args.task c.args.code.now c.args.line.now c.requires c.in-Some.rest.now c.in-Some.ensures c.in_default-pair_at.ensures.read

pub returns-in_default-2-clause-read : goal.returns-in_default-2-clause-read
returns-in_default-2-clause-read c =
    no_heard c.args.plant.now c.args.task c.args.code.now c.args.line.now c.requires c.in-Some.rest.now c.in-Some.ensures
    (c.in-Some-pair_at.incarnation, c.in-Some-pair_at.number) c.in-Some-pair_at.rest.now c.in-Some-pair_at.ensures.read (rw c.in_default-2.is at c.in_ok-heard.ensures.read)

pub returns-in_default-3-clause-read : goal.returns-in_default-3-clause-read
returns-in_default-3-clause-read c =
    no_image c.args.plant.now c.args.task c.args.code.now c.args.line.now c.requires c.in-Some.rest.now c.in-Some.ensures
    (c.in-Some-pair_at.incarnation, c.in-Some-pair_at.number) c.in-Some-pair_at.rest.now c.in-Some-pair_at.ensures.read
    c.in-Some-2.heard.items c.in-Some-2.rest.now (rw c.in-Some-2.is at c.in_ok-heard.ensures.read) (rw c.in_default-3.is at c.in_ok-values.ensures.read)

pub returns-clause-read : goal.returns-clause-read
returns-clause-read c =
    all_parts c.args.plant.now c.args.task c.args.code.now c.args.line.now c.requires c.in-Some.rest.now c.in-Some.ensures
    (c.in-Some-pair_at.incarnation, c.in-Some-pair_at.number) c.in-Some-pair_at.rest.now c.in-Some-pair_at.ensures.read
    c.in-Some-2.heard.items c.in-Some-2.rest.now (rw c.in-Some-2.is at c.in_ok-heard.ensures.read)
    c.in-Some-3.values.items c.in_ok-of.field-0 (rw c.in-Some-3.is at c.in_ok-values.ensures.read)
    (c.in_ok-of.ensures ∙ ap (message (name_with c.args.task (c.in-Some-pair_at.incarnation, c.in-Some-pair_at.number)) c.in-Some-2.heard.items) c.of.ensures)
