use Rattle.std.proofs.Common.{◌++◌, length, drop, sym, subst}
use Rattle.std.proofs.lemmas.List.Elements.{All-take, All-append, All-drop}
use Rattle.scan_steps.specs.Slots.{AreSlotsOf}
use Rattle.power_flow.specs.StateValue.{StateValue}
use Rattle.power_flow.specs.Steps.Edges.{AreOff}
use Rattle.power_flow.proofs.Ladders.AllOff.{IsOff, scan_off}
use Rattle.power_flow.proofs.state.State.run.Goals as goal

pub invariant_of-self : goal.invariant_of-self
invariant_of-self c = λ off.
    let has = c.requires.networks in
    let inside = c.self.inside in
    let Fitting : StateValue → Type 0 = λ s. AreSlotsOf has.0 s.slots in
    let fits : AreSlotsOf has.0 inside.slots = subst Fitting (sym c.self.view_is) has.4 in
    let plain = c.requires.edges (c.still_off-self-inside.ensures.edgeless off) in
    let old = inside.memories.items in
    let new = c.scan_circuits.new.memories in
    let was : AreOff old = c.self.invariant (c.still_off-self-inside.ensures.off off) in
    let now : AreOff new = scan_off has.0 c.args.dt has.1 c.args.circuits.now inside.slots c.scan_circuits.new.slots c.as_mut_slice.result.now new plain
    (c.scan_circuits.ensures has.0 has.1 has.2 has.3 fits) (subst AreOff (sym c.as_mut_slice.ensures.value) was) in
    All-take IsOff inside.memories.len (new ++ drop (length new) old) (All-append IsOff new (drop (length new) old) now (All-drop IsOff (length new) old was))
