use Rattle.std.proofs.Common.{◌≡◌, Some, slice_get, get_or, sym, subst}
use Rattle.std.proofs.lemmas.Option.{get_or_from_slice_get}
use Rattle.power_flow.specs.StateValue.{StateValue}
use Rattle.power_flow.specs.LadderValue.{Fits}
use Rattle.scan_steps.specs.Slots.{IsKindAt}
use Rattle.evaluation.proofs.MappedLists.{on_true}
use Rattle.evaluation.proofs.RetainedStates.{changed_fits, variable_fits}
use Rattle.evaluation.proofs.task_state.set_value.Goals as goal

pub returns-clause-fits : goal.returns-clause-fits
returns-clause-fits c = λ code fits.
    let states = c.args.states.now in
    let s = c.requires.0 in
    let at : slice_get states c.args.variable.program ≡ Some s = c.requires.1 in
    let g : StateValue = get_or states c.args.variable.program c.index-states-variable.result in
    let here : g ≡ s = get_or_from_slice_get states c.args.variable.program s c.index-states-variable.result at in
    let kind : IsKindAt g.slots c.args.variable.place c.args.value = subst (λ (x : StateValue). IsKindAt x.slots c.args.variable.place c.args.value) (sym here) c.requires.2 in
    let yes = c.set.ensures.answer.1 kind in
    changed_fits code states c.args.variable.program s c.set.new.self fits at
    (λ l fit. variable_fits l g c.set.new.self c.args.variable.place c.args.value (on_true c.set.result _ yes c.set.ensures.changed) c.set.ensures.declared
    (subst (Fits l) (sym here) fit))
