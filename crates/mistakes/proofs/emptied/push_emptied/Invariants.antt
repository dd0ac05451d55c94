use Rattle.std.proofs.Common.{◌≡◌, ◌++◌, map, take}
use Rattle.mistakes.specs.Emptied.{emptied}
use Rattle.mistakes.proofs.emptied.push_emptied.Given as goal

abbrev pub invariant-loop-row : goal.invariant-loop-row
invariant-loop-row l = map (λ row. row.now) l.left.items ≡ map (λ row. row.now) l.initial.left.items ++ map (λ row. emptied l.rail l.bare row.now) (take l.row-index l.rows)
