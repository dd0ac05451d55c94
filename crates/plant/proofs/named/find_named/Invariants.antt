use Rattle.std.proofs.Common.{ℕ, ◌<◌}
use Rattle.plant_grammar.specs.Names.{IsAt}
use Rattle.plant.proofs.named.find_named.Given as goal

abbrev pub invariant-loop-k : goal.invariant-loop-k
invariant-loop-k g l = (k : ℕ) (x : g.row.T.Denot) → k < l.k → IsAt g.T.Named.name_of l.items l.name k x → ⊥
