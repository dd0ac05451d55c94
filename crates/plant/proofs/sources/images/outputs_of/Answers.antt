use Rattle.plant.proofs.ProgramOutputs.{before_more, before_all}
use Rattle.plant.proofs.sources.images.outputs_of.Goals as goal

pub loop-i-preserved : goal.loop-i-preserved
loop-i-preserved c =
    let grown = rw (c.declarations.ensures.list, c.ladder.ensures) at c.in_ok-push_outputs.ensures in
    before_more c.args.programs.now c.loop-i.i c.index-programs-i.result c.loop-i.outputs.items c.push_outputs.new.outputs.items c.loop-i-test.true c.index-programs-i.is c.loop-i.invariant grown

pub returns : goal.returns
returns c = before_all c.args.programs.now c.loop-i.i c.loop-i.outputs.items c.loop-i-test.false c.loop-i.invariant
