use Rattle.std.proofs.Common.{◌≡◌, ◌++◌, take}
use Rattle.std.specs.List.{flat_map}
use Rattle.plant_grammar.specs.declared.grammar.tree.Bind.{Bind}
use Rattle.warnings.specs.Far.{number_of}
use Rattle.warnings.proofs.numbers.push_numbers.Given as goal

abbrev pub invariant-loop-bind : goal.invariant-loop-bind
invariant-loop-bind l = l.numbers.items ≡ l.initial.numbers.items ++ flat_map (λ (bind : Bind). number_of l.space bind.source) (take l.bind-index l.binds)
