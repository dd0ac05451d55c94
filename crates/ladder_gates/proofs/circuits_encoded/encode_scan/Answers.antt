use Rattle.std.proofs.Common.{length, sum_by, ap, ◌∙◌}
use Rattle.network.specs.Links.{Diagram}
use Rattle.ladder_gates.proofs.Networks.{elements_counted, shapes}
use Rattle.ladder_gates.proofs.Results.{on_ok}
use Rattle.ladder_gates.proofs.circuits_encoded.encode_scan.Goals as goal

pub encode_circuits-requires-clause-shapes : goal.encode_circuits-requires-clause-shapes
encode_circuits-requires-clause-shapes c =
    let are = c.circuits.ensures in
    shapes are.rows c.args.ladder.now.waiting_links c.args.ladder.now.waiting_results c.circuits.result.now are.room

pub encode_circuits-requires-clause-memories : goal.encode_circuits-requires-clause-memories
encode_circuits-requires-clause-memories c =
    c.requires ∙ ap (sum_by (λ (d : Diagram). length d.elements)) c.circuits.ensures.networks ∙ elements_counted c.circuits.ensures.rails c.circuits.result.now

pub returns : goal.returns
returns c = on_ok _ _ c.encode_circuits.result c.encode_circuits.ensures (λ built v agrees.
    let scanned = built v agrees in
    let are = c.circuits.ensures in
    (scanned.0, λ fits. rw are.networks (scanned.1 c.args.ladder.now.declarations are.rails are.made fits)))
