use Rattle.std.proofs.Common.{◌≡◌, ◌&&◌, Some, slice_get}
use Rattle.gates.specs.declared.gates.Gate.TheVariants.{Off}
use Rattle.gates.specs.Signals.{signal_value}
use Rattle.gates.proofs.Built.{gate_built}
use Rattle.gates.proofs.gates.Gates.and.Goals as goal

pub returns-in-Some : goal.returns-in-Some
returns-in-Some c = λ v agrees.
    let first : slice_get c.args.self.now 0 ≡ Some Off = cc (c.self.view_is, c.self.invariant) in
    (agrees, c.in-Some.ensures v (agrees 0 Off first))

pub returns-in-None : goal.returns-in-None
returns-in-None c =
    gate_built c.args.self.now c.put.new.self c.and_gate.result (λ v. signal_value v c.args.left && signal_value v c.args.right)
    c.and_gate.ensures c.put.result c.put.ensures
