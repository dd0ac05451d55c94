use Rattle.std.proofs.Common.{◌≢◌, ◌++◌, ◌∷◌, [], All}
use Rattle.plant.specs.declared.plant_fault.PlantFaultKind.TheVariants.{Memory}
use Rattle.plant.specs.BodyFaults.{IsFirstBodyFault}
use Rattle.lists.proofs.Results.{kept_fault}
use Rattle.plant_grammar.specs.Grammar.{TextValue}
use Rattle.plant.specs.Ladders.{HasLadder}
use Rattle.plant.proofs.DrawnTypes.{drawn_more, passed_more, first_refused}
use Rattle.plant.proofs.OneLadder.{first_without}
use Rattle.plant.proofs.drawn.draw_all.Goals as goal

pub loop-text-preserved : goal.loop-text-preserved
loop-text-preserved c =
    let before = c.loop-text.invariant.0 in (
      before ++ c.in-Some.text ∷ [],
      passed_more c.args.texts.items before c.loop-text.text-iterator.rest.items c.next.new.self.rest.items c.in-Some.text c.in-Some.ensures.steps.0 c.loop-text.invariant.1,
      drawn_more before c.loop-text.types.items c.push.new.self.items c.in_ok-draw.field-0 c.in-Some.text c.in_ok-push.ensures.items c.in_ok-draw.ensures.program c.in_ok-draw.ensures.ladder c.loop-text.invariant.2,
    )

pub returns-in_err-draw-clause-fault : goal.returns-in_err-draw-clause-fault
returns-in_err-draw-clause-fault c =
    kept_fault c.in_err-draw.field-0.0 (λ fault. fault.kind ≢ Memory → IsFirstBodyFault c.args.texts.items fault) c.from_residual.result c.from_residual.ensures.1
    (λ other. first_refused c.args.texts.items c.loop-text.invariant.0 c.loop-text.types.items c.in-Some.text c.loop-text.text-iterator.rest.items c.next.new.self.rest.items c.in_err-draw.field-0.0
    c.in-Some.ensures.steps.0 c.loop-text.invariant.1 c.loop-text.invariant.2 (c.in_err-draw.ensures.fault other))

pub returns-in_err-draw-clause-refused : goal.returns-in_err-draw-clause-refused
returns-in_err-draw-clause-refused c =
    let fault = c.in_err-draw.field-0.0 in
    kept_fault fault (λ fault. fault.kind ≢ Memory → All (λ (t : TextValue). HasLadder t.program) c.args.texts.items → ⊥) c.from_residual.result c.from_residual.ensures.1
    (λ other. first_without c.args.texts.items fault
    (first_refused c.args.texts.items c.loop-text.invariant.0 c.loop-text.types.items c.in-Some.text c.loop-text.text-iterator.rest.items c.next.new.self.rest.items fault
    c.in-Some.ensures.steps.0 c.loop-text.invariant.1 c.loop-text.invariant.2 (c.in_err-draw.ensures.fault other)))
