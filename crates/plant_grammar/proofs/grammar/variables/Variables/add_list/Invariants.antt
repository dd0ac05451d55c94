use Rattle.std.proofs.Common.{◌≡◌, ◌++◌, map, take}
use Rattle.plant_grammar.specs.Lawful.{declared_as}
use Rattle.plant_grammar.proofs.grammar.variables.Variables.add_list.Given as goal

abbrev pub invariant-loop-name : goal.invariant-loop-name
invariant-loop-name l = l.self ≡ l.fn.self ++ map (λ n. record { name = n; declared = declared_as l.fn.section l.list.type_name }) (take l.name-index l.list.names.items)
