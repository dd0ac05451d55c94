use Rattle.std.proofs.Common.{arith}
use Rattle.cycle.proofs.Counting.{none_before}
use Rattle.cycle.proofs.cycled_task.CycledTask.next_due.Goals as goal

pub returns : goal.returns
returns c =
    let first = rw (c.from.ensures, c.from-2.ensures) at c.saturating_add.ensures in
    λ reading lt. none_before c.args.self.now c.saturating_add.result reading c.requires (omega (arith, first)) lt
