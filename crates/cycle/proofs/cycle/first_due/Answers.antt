use Rattle.std.proofs.Common.{sym, ◌∙◌, arith}
use Rattle.cycle.specs.Cycle.{is_due}
use Rattle.cycle.specs.declared.cycled_task.CycledTask.{CycledTask}
use Rattle.cycle.proofs.Cycling.{position_here, position_none}
use Rattle.cycle.proofs.cycle.first_due.Goals as goal

pub returns-then-is_due : goal.returns-then-is_due
returns-then-is_due c =
    let none : CycledTask = record { priority = 0; task = 0; interval = 0; evaluated = 0 } in
    sym (position_here (is_due c.args.reading) c.args.tasks.now c.loop-place.place none c.loop-place-test.true c.loop-place.invariant (sym c.is_due.ensures ∙ c.if-is_due.true))

pub returns : goal.returns
returns c = sym (position_none (is_due c.args.reading) c.args.tasks.now (λ j below. c.loop-place.invariant j (omega (arith, below, c.loop-place-test.false))))
