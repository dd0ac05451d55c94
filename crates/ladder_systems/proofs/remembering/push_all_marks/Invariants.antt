use Rattle.std.proofs.Common.{◌≡◌, ◌++◌, map, take}
use Rattle.std.specs.List.{flat_map}
use Rattle.power_flow.specs.declared.steps.circuit.Circuit.{Circuit}
use Rattle.ladder_systems.specs.Remembering.{remembers}
use Rattle.ladder_systems.proofs.remembering.push_all_marks.Given as goal

abbrev pub invariant-loop-circuit : goal.invariant-loop-circuit
invariant-loop-circuit l = l.marks.items
    ≡ l.initial.marks.items ++ flat_map (λ (c : Circuit). map remembers c.elements.items) (take l.circuit-index l.circuits)
