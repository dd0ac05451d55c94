use Rattle.std.proofs.Common.{◌≡◌, ◌++◌, map, take}
use Rattle.plant_grammar.proofs.grammar.retained_places.push_list.Given as goal

abbrev pub invariant-loop : goal.invariant-loop
invariant-loop l = l.sections.items ≡ l.fn.sections.items ++ map (λ n. l.section) (take l.index l.list.names.items)
