-- One more task, or a text that goes on otherwise.
use Rattle.std.proofs.Common.{arith, ◌≡◌, ◌∙◌, ◌+◌, List, length, Some, ap, sym, subst}
use Rattle.std.proofs.lemmas.Option.{none-some}
use Rattle.lists.proofs.Places.{element_at}
use Rattle.exchange_core.specs.Steps.Opened.{as_many_codes}
use Rattle.plant.specs.PlantValue.{TaskValue, codes_at}
use Rattle.live_node.specs.NodeJournal.{task_kept_text}
use Rattle.audit.specs.Steps.Reading.{AreKeptOf}
use Rattle.audit.proofs.KeptLists.{AreFirst, first_more, first_stuck, first_all}
use Rattle.audit.proofs.Starts.{kept_starts}
use Rattle.audit.proofs.kept_values.all_kept_in.Goals as goal

pub loop-task-preserved : goal.loop-task-preserved
loop-task-preserved c =
    let codes = codes_at c.args.plant.now c.args.resource in
    subst (λ kept. AreFirst task_kept_text kept_starts AreKeptOf codes c.args.text.now (c.loop-task.task + 1) kept c.in-Some-2.behind.now) (sym c.in_ok-push.ensures.items)
    (first_more task_kept_text kept_starts AreKeptOf codes c.args.text.now c.loop-task.task c.deref.result.now c.loop-task.kept.items c.loop-task.rest.now c.in-Some-2.retained c.in-Some-2.behind.now
    (sym c.in-Some.ensures ∙ ap (λ v. Some v) (sym c.deref.ensures)) c.loop-task.invariant (rw c.in-Some-2.is at c.in_ok-retained.ensures))

pub returns-in_default : goal.returns-in_default
returns-in_default c =
    let codes = codes_at c.args.plant.now c.args.resource in
    let many : length c.tasks-tasks.result.now ≡ length codes = ap (λ (ts : List TaskValue). length ts) c.tasks-tasks.ensures ∙ sym (as_many_codes c.args.plant.now c.args.resource c.resources-resources.ensures.sound) in
    let found = element_at codes c.loop-task.task (omega (arith, many, c.loop-task-test.true)) in
    λ opening all is. absurd (none-some found.0 (c.in_default.ensures ∙ found.1))

pub returns-in_default-2 : goal.returns-in_default-2
returns-in_default-2 c =
    let codes = codes_at c.args.plant.now c.args.resource in
    λ opening all is.
    absurd (first_stuck task_kept_text kept_starts AreKeptOf codes c.args.text.now c.loop-task.task c.deref.result.now c.loop-task.kept.items c.loop-task.rest.now (sym c.in-Some.ensures ∙ ap (λ v. Some v) (sym c.deref.ensures)) c.loop-task.invariant
    (rw c.in_default-2.is at c.in_ok-retained.ensures) opening all is)

pub returns : goal.returns
returns c =
    let codes = codes_at c.args.plant.now c.args.resource in
    let many : length c.tasks-tasks.result.now ≡ length codes = ap (λ (ts : List TaskValue). length ts) c.tasks-tasks.ensures ∙ sym (as_many_codes c.args.plant.now c.args.resource c.resources-resources.ensures.sound) in
    λ opening all is.
    ap (λ v. Some v) (first_all task_kept_text kept_starts AreKeptOf codes c.args.text.now c.loop-task.task c.loop-task.kept.items c.loop-task.rest.now (omega (arith, many, c.loop-task-test.false)) c.loop-task.invariant opening all is)
