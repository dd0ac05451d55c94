use Rattle.std.proofs.Common.{◌≡◌, ◌++◌, map, take}
use Rattle.warnings.proofs.elements.push_elements.Given as goal

abbrev pub invariant-loop-element : goal.invariant-loop-element
invariant-loop-element l = map (λ e. e.now) l.all.items ≡ map (λ e. e.now) l.initial.all.items ++ take l.element-index l.elements
