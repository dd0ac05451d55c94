use Rattle.std.proofs.Common.{subst, arith, IsPermutation}
use Rattle.cycle.proofs.Cycling.{starts_reached, stays_narrow, stays_positive}
use Rattle.cycle.proofs.cycle.Cycle.of.Goals as goal

pub invariant_of-result : goal.invariant_of-result
invariant_of-result c =
    let tasks = c.sort_unstable.new.self.items in
    record {
      positive = stays_positive c.in_ok-tasks.tasks.items tasks c.sort_unstable.ensures.permutation c.in_ok-tasks.ensures.positive;
      narrow = stays_narrow c.in_ok-tasks.tasks.items tasks c.sort_unstable.ensures.permutation c.in_ok-tasks.ensures.narrow;
      reached = starts_reached c.args.tasks.now tasks (subst (λ xs. IsPermutation xs tasks) c.in_ok-tasks.ensures.tasks c.sort_unstable.ensures.permutation);
      begun = omega arith;
    }
