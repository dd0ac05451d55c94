use Rattle.std.proofs.Common.{◌≡◌, List, IfOk, sym, subst, ◌∙◌}
use Rattle.evaluation.specs.Steps.Facts.{states_of_one}
use Rattle.power_flow.specs.StateValue.{StateValue}
use Rattle.evaluation.specs.States.{AreStatesOf}
use Rattle.evaluation.proofs.task_state.TaskState.shared_or_of.Goals as goal

pub returns-then-are_same_states : goal.returns-then-are_same_states
returns-then-are_same_states c =
    let before = c.args.self.now in
    let kept = c.in_ok-kept.kept.items in
    let same = rw (c.states.ensures, c.deref.ensures.value) at c.are_same_states.ensures in
    let fits : AreStatesOf c.requires.0 kept = subst (AreStatesOf c.requires.0) (sym c.in_ok-kept.ensures) c.requires.2 in
    let equal = states_of_one c.requires.0 before kept c.requires.1 fits (same.0 c.if-are_same_states.true) ∙ c.in_ok-kept.ensures in
    let Is : List StateValue → Type 0 = λ l. IfOk c.try_copy.result (λ s. s ≡ l) in
    subst Is equal c.try_copy.ensures
