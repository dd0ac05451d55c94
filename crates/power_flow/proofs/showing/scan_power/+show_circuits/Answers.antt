use Rattle.std.proofs.Common.{◌++◌, append_assoc, ap, ◌∙◌, arith}
use Rattle.power_flow.proofs.ShownPower.ScanPower.{shown_more}
use Rattle.power_flow.proofs.showing.scan_power.+show_circuits.Goals as goal

pub returns-in_ok-show_circuits : goal.returns-in_ok-show_circuits
returns-in_ok-show_circuits t c =
    let here = rw c.split_at_mut-here.ensures.front at c.in_ok-show_circuit.ensures.shown in
    let later = rw c.split_at_mut-here.ensures.back at c.in_ok-show_circuits.ensures in
    let old = c.args.shown.now.items in (
      here.0 ++ later.0,
      later.1 ∙ ap (λ w. w ++ later.0) here.1 ∙ append_assoc old here.0 later.0,
      shown_more c.args.declarations.now c.args.rails.now c.args.dt c.in-Some.first.now c.in-Some.rest.now c.args.circuits.now c.args.slots.now c.show_circuit.new.slots c.show_circuits.new.slots c.args.memories.now
          c.show_circuit.new.memories c.show_circuits.new.memories here.0 later.0 c.len-elements.result
          c.in-Some.ensures.cases.0 (omega (arith, c.len-elements.ensures, c.in-Some.first.now.elements.ok.0)) (omega arith) here.2 later.2,
    )
