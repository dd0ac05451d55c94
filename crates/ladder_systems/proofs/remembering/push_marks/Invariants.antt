use Rattle.std.proofs.Common.{◌≡◌, ◌++◌, map, take}
use Rattle.ladder_systems.specs.Remembering.{remembers}
use Rattle.ladder_systems.proofs.remembering.push_marks.Given as goal

abbrev pub invariant-loop-element : goal.invariant-loop-element
invariant-loop-element l = l.marks.items ≡ l.initial.marks.items ++ map remembers (take l.element-index l.elements)
