use Rattle.std.proofs.Common.{◌≤◌, ℕ, List, All, subst, arith}
use Rattle.std.proofs.lemmas.List.{take_all}
use Rattle.power_flow.specs.declared.steps.circuit.Circuit.{Circuit}
use Rattle.power_flow.proofs.Ladders.Binds.{most_more}
use Rattle.power_flow.proofs.steps.room.most_rows.Goals as goal

pub loop-circuit-init : goal.loop-circuit-init
loop-circuit-init c = λ k d lt. absurd (omega arith)

pub loop-circuit-preserved : goal.loop-circuit-preserved
loop-circuit-preserved c =
    let f : Circuit → ℕ = λ x. x.rows in
    let item = c.circuit-item.result in
    most_more f c.args.circuits.now c.loop-circuit.circuit-index c.loop-circuit.most c.max-most.result item c.loop-circuit-test.true c.circuit-item.is c.loop-circuit.invariant
    (omega (arith, c.max-most.ensures)) (omega (arith, c.max-most.ensures))

pub returns : goal.returns
returns c =
    let P : List Circuit → Type 0 = λ circuits. All (λ (x : Circuit). x.rows ≤ c.loop-circuit.most) circuits in
    subst P (take_all c.loop-circuit.circuit-index c.args.circuits.now c.loop-circuit-test.false) c.loop-circuit.invariant
