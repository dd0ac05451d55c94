use Rattle.std.proofs.Common.{length, refl, ◌∙◌}
use Rattle.std.proofs.lemmas.Iterator.Adapters.{YieldsList-from_vec}
use Rattle.std.proofs.lemmas.Iterator.Consumers.{YieldsList-turn}
use Rattle.std.proofs.lemmas.Option.{slice_get_read}
use Rattle.power_flow.proofs.Ladders.Binds.{circuits_more, shapes_more, elements_more}
use Rattle.power_flow.proofs.steps.circuits.circuits_of.Goals as goal

pub circuit_of-requires : goal.circuit_of-requires
circuit_of-requires c =
    let g = c.into_iter-network-iterator.ensures.into_iter_gives in
    let all = c.args.networks.items in
    let network = c.in-Some.network in
    let v = YieldsList-from_vec {s = c.into_iter-network-iterator.result} all g.0 (g.1 ∙ c.args.networks.ok.0) in
    let t = YieldsList-turn v c.loop-network.yielded c.loop-network.network-iterator c.loop-network.yielded_by c.next.result c.next.new.self network c.in-Some.is c.next.ensures.steps in
    rw c.in_ok-rails.ensures (c.requires (length c.loop-network.yielded) network (slice_get_read all (length all) (length c.loop-network.yielded) network refl t.0 t.1))

pub loop-network-preserved : goal.loop-network-preserved
loop-network-preserved c =
    let circuit = c.in_ok-circuit.circuit in
    let one = c.loop-network.invariant in
    let pushed = c.in_ok-push.ensures.items in
    let made = rw c.in_ok-rails.ensures at c.in_ok-circuit.ensures.circuit in
    rw pushed record {
      elements = elements_more c.loop-network.circuits.items c.loop-network.yielded circuit c.in-Some.network one.elements c.in_ok-circuit.ensures.elements;
      circuits = circuits_more c.args.declarations.now c.args.rails.now c.loop-network.circuits.items c.loop-network.yielded circuit c.in-Some.network one.circuits made c.in_ok-circuit.ensures.elements;
      shape = shapes_more c.loop-network.circuits.items circuit one.shape c.in_ok-circuit.ensures.shape;
    }
