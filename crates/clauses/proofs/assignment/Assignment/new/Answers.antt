use Rattle.std.proofs.Common.{refl}
use Rattle.clauses.proofs.Known.{none_of_past}
use Rattle.clauses.proofs.assignment.Assignment.new.Goals as goal

pub returns : goal.returns
returns c =
    let made = c.in_ok-assigned.ensures.items_if_clones_equal (λ y e. e) in
    none_of_past 1 c.args.variables _ refl c.in_ok-assigned.assigned.items made
