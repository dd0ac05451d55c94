use Rattle.std.proofs.Common.{◌≡◌, ◌++◌, List, [], take, sym, subst, ap, ◌∙◌, get_or}
use Rattle.std.specs.Global.{Vec}
use Rattle.std.proofs.lemmas.List.{take_all}
use Rattle.task_codes.specs.declared.task_ref.TaskRef.{TaskRef}
use Rattle.plant_claims.specs.declared.output.Output.{Output}
use Rattle.plant_claims.specs.Steps.Scoping.{AddsTasks, tasks_of, tasks_of_all}
use Rattle.plant_claims.proofs.Listing.{tasks-then, tasks_of_all-none, tasks_of_all-more}
use Rattle.verifying_plants.proofs.reached_tasks.asked_tasks.Goals as goal

pub loop-claim-init : goal.loop-claim-init
loop-claim-init c =
    let now = c.push_tasks_of.new.tasks.items in
    subst (λ (l : List TaskRef). AddsTasks l now (tasks_of_all [] c.args.given.now)) c.new-tasks.ensures.items
    (subst (λ (l : List TaskRef). AddsTasks c.new-tasks.result.items now l) (tasks_of_all-none c.args.given.now) c.in_ok-push_tasks_of.ensures)

pub loop-claim-preserved : goal.loop-claim-preserved
loop-claim-preserved c =
    let claims = c.args.claims.now in
    let given = c.args.given.now in
    let i = c.loop-claim.claim-index in
    let claim : c.deref.result.now ≡ (get_or claims i c.claim-item.result).items = c.deref.ensures.value ∙ ap (λ (v : Vec Output). v.items) c.claim-item.is in
    tasks-then [] c.loop-claim.tasks.items c.push_tasks_of-in-loop-claim.new.tasks.items (tasks_of_all (take i claims) given) (tasks_of c.deref.result.now) _
    (tasks_of_all-more claims given i c.claim-item.result c.loop-claim-test.true ∙ ap (λ l. tasks_of_all (take i claims) given ++ tasks_of l) (sym claim))
    c.loop-claim.invariant c.in_ok-push_tasks_of-2.ensures

pub returns : goal.returns
returns c =
    subst (λ (l : List (Vec Output)). AddsTasks [] c.loop-claim.tasks.items (tasks_of_all l c.args.given.now))
    (take_all c.loop-claim.claim-index c.args.claims.now c.loop-claim-test.false) c.loop-claim.invariant
