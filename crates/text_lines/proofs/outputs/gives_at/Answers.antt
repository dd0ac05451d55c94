-- One more value, or a text that goes on otherwise.
use Rattle.std.proofs.Common.{arith}
use Rattle.text_lines.specs.Lists.{give_text}
use Rattle.text_lines.specs.Steps.Reading.{IsGivenOf}
use Rattle.text_lines.proofs.Lists.{first_all, give_more, give_stuck}
use Rattle.text_lines.proofs.outputs.gives_at.Goals as goal

pub loop-output-preserved : goal.loop-output-preserved
loop-output-preserved c =
    let all = give_more c.args.code.now c.args.text.now c.loop-output.output c.loop-output.values.items c.push.new.self.items c.loop-output.rest.now c.in-Some.value c.in-Some.behind.now c.output_kind.result
    (omega (arith, c.loop-output-test.true, c.outputs-output-end.ensures)) c.loop-output.invariant.kinds c.loop-output.invariant.in_range c.loop-output.invariant.first
    c.output_kind.ensures c.in-Some.ensures.kind c.in-Some.ensures.read c.in_ok-push.ensures.items in
    record { kinds = all.0; in_range = all.1; first = all.2 }

pub returns-in_default-clause-read : goal.returns-in_default-clause-read
returns-in_default-clause-read c =
    give_stuck c.args.code.now c.args.text.now c.loop-output.output c.loop-output.values.items c.loop-output.rest.now c.output_kind.result
    (omega (arith, c.loop-output-test.true, c.outputs-output-end.ensures)) c.loop-output.invariant.first c.output_kind.ensures c.in_default.ensures.read

pub returns-clause-read : goal.returns-clause-read
returns-clause-read c =
    first_all (give_text c.args.code.now) IsGivenOf c.args.code.now.outputs c.args.text.now c.loop-output.output c.loop-output.values.items c.loop-output.rest.now
    (omega (arith, c.loop-output-test.false, c.outputs-output-end.ensures)) c.loop-output.invariant.first
