use Rattle.std.proofs.Common.{◌≡◌, ◌++◌, map, take}
use Rattle.plant_grammar.specs.Lawful.{lists_variables}
use Rattle.plant_grammar.proofs.grammar.retained_places.push_block.Given as goal

abbrev pub invariant-loop-list : goal.invariant-loop-list
invariant-loop-list l = l.sections.items ≡ l.fn.sections.items ++ map (λ v. l.block.section) (lists_variables l.block.section (take l.list-index l.block.lists.items))
