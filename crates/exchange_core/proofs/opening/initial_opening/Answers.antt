use Rattle.std.proofs.Common.{◌≡◌, ◌<◌, ◌+◌, ◌++◌, List, [], ◌∷◌, Some, length, slice_get, arith, ap, sym, ◌∙◌, subst}
use Rattle.std.proofs.lemmas.Option.{none-some}
use Rattle.lists.proofs.Places.{element_at}
use Rattle.exchange_core.specs.Steps.Opened.{as_many_codes}
use Rattle.plant.specs.PlantValue.{codes_at}
use Rattle.task_codes.specs.CodeValue.{CodeValue}
use Rattle.evaluation.specs.Retained.{Suits, initial_retained}
use Rattle.exchange_core.proofs.Openings.{IsOpened, opened-more, opened-all, opened-suits}
use Rattle.exchange_core.proofs.opening.initial_opening.Goals as goal
use Rattle.exchange_core.proofs.opening.initial_opening.Goals.{in-Some+in_ok-initial+in_ok-push, in_default}

pub loop-task-preserved : goal.loop-task-preserved
loop-task-preserved c =
    let plant = c.args.plant.now in
    let resource = c.args.resource in
    let n = c.loop-task.task in
    let codes : List CodeValue = codes_at plant resource in
    let lt : n < length codes = omega (arith, ap length c.tasks-tasks.ensures, as_many_codes plant resource c.resources-resources.ensures.sound, c.loop-task-test.true) in
    elim c.match-code.branch [
      | in-Some+in_ok-initial+in_ok-push w ↦
          (let code : CodeValue = w.in-Some.code.now.value in
          let found : slice_get codes n ≡ Some code = sym w.in-Some.ensures in
          let value : w.in_ok-initial.field-0 ≡ initial_retained code = w.in_ok-initial.ensures.value ∙ ap initial_retained w.deref.ensures in
          let suits : Suits code (initial_retained code) = subst (Suits code) value (subst (λ k. Suits k w.in_ok-initial.field-0) w.deref.ensures w.in_ok-initial.ensures.suits) in
          let pushed = w.in_ok-push.ensures.items in
          let same = w.opening-is in
          let new : c.match-code.opening.items ≡ c.loop-task.opening.items ++ initial_retained code ∷ [] = cc in
          subst (IsOpened plant resource (n + 1)) (sym new) (opened-more plant resource n c.loop-task.opening.items code c.loop-task.invariant found suits))
      | in_default w ↦ (let e = element_at codes n lt in absurd (none-some e.0 (w.in_default.ensures ∙ e.1)))
    ]

pub returns-clause-value : goal.returns-clause-value
returns-clause-value c =
    opened-all c.args.plant.now c.args.resource c.loop-task.task c.loop-task.opening.items
    (omega (arith, ap length c.tasks-tasks.ensures, as_many_codes c.args.plant.now c.args.resource c.resources-resources.ensures.sound, c.loop-task-test.false))
    c.loop-task.invariant

pub returns-clause-suits : goal.returns-clause-suits
returns-clause-suits c =
    opened-suits c.args.plant.now c.args.resource c.loop-task.task c.loop-task.opening.items
    (omega (arith, ap length c.tasks-tasks.ensures, as_many_codes c.args.plant.now c.args.resource c.resources-resources.ensures.sound, c.loop-task-test.false, c.loop-task.auto.task-end))
    c.loop-task.invariant
