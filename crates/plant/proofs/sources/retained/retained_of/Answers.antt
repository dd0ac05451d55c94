use Rattle.plant.proofs.RetainedVariables.{program_more, programs_all}
use Rattle.plant.proofs.sources.retained.retained_of.Goals as goal

pub loop-i-preserved : goal.loop-i-preserved
loop-i-preserved c =
    program_more c.args.programs.now c.loop-i.i c.index-programs-i.result c.loop-i.retained.items c.push_program.new.retained.items c.loop-i-test.true c.index-programs-i.is c.loop-i.invariant c.in_ok-push_program.ensures

pub returns : goal.returns
returns c = programs_all c.args.programs.now c.loop-i.i c.loop-i.retained.items c.loop-i-test.false c.loop-i.invariant
