-- One more number.
use Rattle.std.proofs.Common.{arith, string_bytes, get_or}
use Rattle.std.proofs.lemmas.Option.{slice_get-get_or}
use Rattle.lists.proofs.Places.{element_at}
use Rattle.text_lines.specs.MessageLines.{heard_text}
use Rattle.text_lines.proofs.Lists.{written_more, written_all}
use Rattle.text_lines.proofs.heard.push_all_heard.Goals as goal

pub loop-resource-preserved : goal.loop-resource-preserved
loop-resource-preserved c =
    let rs = c.args.plant.now.resources in
    let found = element_at rs c.loop-resource.resource (omega (arith, c.loop-resource-test.true, c.requires)) in
    written_more heard_text rs c.args.heard.now c.requires (string_bytes c.args.line.now) c.loop-resource.resource found.0 (get_or c.args.heard.now c.loop-resource.resource 0)
    (string_bytes c.loop-resource.line) (string_bytes c.push_heard.new.line) found.1 (slice_get-get_or c.args.heard.now c.loop-resource.resource 0 c.loop-resource-test.true) c.loop-resource.invariant (c.in_ok-push_heard.ensures found.0 found.1)

pub returns : goal.returns
returns c =
    written_all heard_text c.args.plant.now.resources c.args.heard.now c.requires (string_bytes c.args.line.now) c.loop-resource.resource (string_bytes c.loop-resource.line)
    c.loop-resource-test.false c.loop-resource.invariant
