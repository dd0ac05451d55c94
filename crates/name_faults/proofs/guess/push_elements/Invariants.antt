use Rattle.std.proofs.Common.{◌≡◌, ◌++◌, take}
use Rattle.std.specs.List.{flat_map}
use Rattle.name_faults.specs.Guess.{element_uses}
use Rattle.name_faults.proofs.guess.push_elements.Given as goal

abbrev pub invariant-loop-element : goal.invariant-loop-element
invariant-loop-element l = l.uses.items ≡ l.initial.uses.items ++ flat_map (element_uses) (take l.element-index l.elements)
