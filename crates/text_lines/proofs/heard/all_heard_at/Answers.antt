-- One more number, or a text that goes on otherwise.
use Rattle.std.proofs.Common.{arith}
use Rattle.text_lines.specs.Steps.Reading.{heard_item, IsHeardOf}
use Rattle.text_lines.proofs.Lists.{first_all, heard_more, heard_stuck}
use Rattle.text_lines.proofs.heard.all_heard_at.Goals as goal

pub loop-resource-preserved : goal.loop-resource-preserved
loop-resource-preserved c =
    let all = heard_more c.args.plant.now.resources c.args.text.now c.loop-resource.resource c.loop-resource.heard.items c.push.new.self.items c.loop-resource.rest.now c.in-Some.number c.in-Some.behind.now
    (omega (arith, c.loop-resource-test.true, c.resources-resource-end.ensures.count)) c.loop-resource.invariant.many c.loop-resource.invariant.small c.loop-resource.invariant.first
    c.in-Some.ensures.small c.in-Some.ensures.read c.in_ok-push.ensures.items in
    record { many = all.0; small = all.1; first = all.2 }

pub returns-in_default-clause-read : goal.returns-in_default-clause-read
returns-in_default-clause-read c =
    heard_stuck c.args.plant.now.resources c.args.text.now c.loop-resource.resource c.loop-resource.heard.items c.loop-resource.rest.now
    (omega (arith, c.loop-resource-test.true, c.resources-resource-end.ensures.count)) c.loop-resource.invariant.first c.in_default.ensures.read

pub returns-clause-read : goal.returns-clause-read
returns-clause-read c =
    first_all heard_item IsHeardOf c.args.plant.now.resources c.args.text.now c.loop-resource.resource c.loop-resource.heard.items c.loop-resource.rest.now
    (omega (arith, c.loop-resource-test.false, c.resources-resource-end.ensures.count)) c.loop-resource.invariant.first
