use Rattle.std.proofs.Common.{◌≡◌, List, ℕ, position, Some, None, ap, sym, ◌∙◌}
use Rattle.cycle.specs.Cycle.{CycleValue, cycle_of, is_due}
use Rattle.cycle.specs.declared.cycled_task.CycledTask.{CycledTask}
use Rattle.cycle.proofs.Cycling.{of_round, of_next}
use Rattle.cycle.proofs.cycle.Cycle.next_place.Goals as goal

pub returns-in-Some-clause-place : goal.returns-in-Some-clause-place
returns-in-Some-clause-place c =
    let now = c.args.self.now in
    let e : position (is_due now.round) now.tasks ≡ Some c.in-Some.place = cc in
    sym (of_round now now.latest c.in-Some.place e).0

pub returns-in-Some-clause-round : goal.returns-in-Some-clause-round
returns-in-Some-clause-round c =
    let now = c.args.self.now in
    let e : position (is_due now.round) now.tasks ≡ Some c.in-Some.place = cc in
    ap (λ (r : ℕ). cycle_of now.tasks r now.latest) (sym (of_round now now.latest c.in-Some.place e).1)

pub returns-clause-place : goal.returns-clause-place
returns-clause-place c =
    let now = c.args.self.now in
    let e : position (is_due now.round) now.tasks ≡ None = cc in
    let same : c.self.inside.tasks.items ≡ now.tasks = ap (λ (v : CycleValue). v.tasks) c.self.view_is in
    let late : c.self.inside.latest ≡ now.latest = ap (λ (v : CycleValue). v.latest) c.self.view_is in
    c.first_due-2.ensures ∙ ap (λ (ts : List CycledTask). position (is_due c.self.inside.latest) ts) (c.deref-2.ensures.value ∙ same)
    ∙ ap (λ (r : ℕ). position (is_due r) now.tasks) late ∙ sym (of_next now now.latest e).0

pub returns-clause-round : goal.returns-clause-round
returns-clause-round c =
    let now = c.args.self.now in
    let e : position (is_due now.round) now.tasks ≡ None = cc in
    ap (λ (v : CycleValue). cycle_of v.tasks v.latest v.latest) c.self.view_is
    ∙ ap (λ (r : ℕ). cycle_of now.tasks r now.latest) (sym (of_next now now.latest e).1)
