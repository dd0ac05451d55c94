use Rattle.std.proofs.Common.{◌++◌, map, ap, sym, ◌∙◌}
use Rattle.std.specs.List.{flat_map}
use Rattle.power_flow.specs.declared.steps.circuit.Circuit.{Circuit}
use Rattle.ladder_systems.specs.Remembering.{memory_marks, remembers}
use Rattle.ladder_systems.proofs.Pushing.{marks_of}
use Rattle.ladder_systems.proofs.remembering.memory_marks.Goals as goal

pub returns : goal.returns
returns c =
    let circuits = c.circuits.ensures in
    let all = flat_map (λ (d : Circuit). map remembers d.elements.items) c.circuits.result.now in
    c.in_ok-push_all_marks.ensures ∙ ap (λ l. l ++ all) c.new-marks.ensures.items ∙ sym (ap memory_marks circuits.networks ∙ marks_of circuits.rails c.circuits.result.now)
