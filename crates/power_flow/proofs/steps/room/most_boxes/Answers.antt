use Rattle.std.proofs.Common.{◌≤◌, ℕ, List, All, length, subst, arith}
use Rattle.std.proofs.lemmas.List.{take_all}
use Rattle.power_flow.specs.declared.steps.circuit.Circuit.{Circuit}
use Rattle.power_flow.proofs.Ladders.Binds.{most_more, least_more}
use Rattle.power_flow.proofs.steps.room.most_boxes.Goals as goal

pub loop-circuit-init : goal.loop-circuit-init
loop-circuit-init c = (λ k d lt. absurd (omega arith), λ n h. omega arith)

pub loop-circuit-preserved : goal.loop-circuit-preserved
loop-circuit-preserved c =
    let f : Circuit → ℕ = λ x. length x.boxes.items in
    let old = c.loop-circuit.most in
    let new = c.max-most.result in
    let item = c.circuit-item.result in (
      most_more f c.args.circuits.now c.loop-circuit.circuit-index old new item c.loop-circuit-test.true c.circuit-item.is c.loop-circuit.invariant.0 (omega (arith, c.max-most.ensures))
          (omega (arith, c.max-most.ensures, c.len.ensures, c.circuit-item.result.boxes.ok.0)),
      least_more f c.args.circuits.now c.loop-circuit.circuit-index old new item c.loop-circuit-test.true c.circuit-item.is c.loop-circuit.invariant.1
          (omega (arith, c.max-most.ensures, c.len.ensures, c.circuit-item.result.boxes.ok.0)),
    )

pub returns-clause-enough : goal.returns-clause-enough
returns-clause-enough c =
    let P : List Circuit → Type 0 = λ circuits. All (λ (x : Circuit). length x.boxes.items ≤ c.loop-circuit.most) circuits in
    subst P (take_all c.loop-circuit.circuit-index c.args.circuits.now c.loop-circuit-test.false) c.loop-circuit.invariant.0

pub returns-clause-least : goal.returns-clause-least
returns-clause-least c = c.loop-circuit.invariant.1
