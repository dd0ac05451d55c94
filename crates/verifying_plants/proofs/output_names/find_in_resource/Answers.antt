use Rattle.std.proofs.Common.{ap, arith, length}
use Rattle.verifying_plants.proofs.Naming.{none_in_resource}
use Rattle.verifying_plants.proofs.output_names.find_in_resource.Goals as goal

pub returns-clause-none : goal.returns-clause-none
returns-clause-none c =
    let end = ap length c.tasks-task-end.ensures in
    none_in_resource c.args.plant.now c.args.word.now c.args.resource c.requires.sound (λ j place lt. c.loop-task.invariant j place (omega (arith, lt, end, c.loop-task-test.false)))
