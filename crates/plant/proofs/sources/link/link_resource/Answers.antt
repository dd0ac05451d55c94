use Rattle.std.proofs.Common.{◌≡◌, ◌∙◌, ap, sym, subst, List, length, map}
use Rattle.std.specs.Borrow.{Bor}
use Rattle.std.specs.Global.{Global}
use Rattle.std.specs.declared.sync.Arc.{Arc}
use Rattle.std.proofs.lemmas.List.{length-map}
use Rattle.lists.proofs.Zips.{zip_length}
use Rattle.task_codes.specs.declared.task_code.TaskCode.{TaskCode}
use Rattle.plant_grammar.specs.declared.grammar.tree.TaskLine.{TaskLine}
use Rattle.plant_grammar.specs.declared.grammar.tree.Use.{Use}
use Rattle.plant_grammar.specs.Lawful.{tasks_of}
use Rattle.plant.specs.StandsFor.{runs_in}
use Rattle.plant.specs.Steps.Drafts.{drafted, IsDraftOf, IsCodeLinked, Triples}
use Rattle.plant.proofs.FedUses.{runs_of_task}
use Rattle.plant.proofs.LinkedPlants.{resource_made}
use Rattle.plant.proofs.sources.link.link_resource.Goals as goal

pub link_tasks-requires-clause-many : goal.link_tasks-requires-clause-many
link_tasks-requires-clause-many c =
    let r = c.args.resource.now in
    let lines = c.in_ok-lines.lines.items in
    rw (c.as_slice.ensures.value, c.tasks.ensures)
    (sym (length-map lines (λ (t : Bor TaskLine). t.now)) ∙ ap length c.in_ok-lines.ensures ∙ zip_length (IsDraftOf c.requires.known.0 r) (tasks_of r) c.args.draft.now.codes c.requires.known.1.codes_are)

pub link_tasks-requires-clause-once : goal.link_tasks-requires-clause-once
link_tasks-requires-clause-once c = rw c.requires.fed.runs_are c.requires.ready.apart

pub link_tasks-requires-clause-fed : goal.link_tasks-requires-clause-fed
link_tasks-requires-clause-fed c = rw (c.as_slice.ensures.value, c.tasks.ensures, c.in_ok-lines.ensures) c.requires.fed.each

pub returns : goal.returns
returns c =
    let plant = drafted c.args.drafts.now in
    let r = c.args.resource.now in
    let fed = c.args.fed.now in
    let lines = c.in_ok-lines.lines.items in
    let listed = map (λ (t : Bor TaskLine). t.now) lines in
    let codes = map (λ (e : Arc TaskCode Global). e.value) c.in_ok-codes.codes.items in
    let many : length codes ≡ length listed =
    length-map c.in_ok-codes.codes.items (λ (e : Arc TaskCode Global). e.value) ∙ c.in_ok-codes.ensures.many ∙ ap length c.as_slice.ensures.value ∙ sym (length-map lines (λ (t : Bor TaskLine). t.now)) in
    let each = rw (c.as_slice.ensures.value, c.tasks.ensures) at c.in_ok-codes.ensures.each in
    let of_tasks : Triples (λ t d e. IsCodeLinked plant (runs_in r t) d e) listed c.args.draft.now.codes codes =
    λ k t d e at at' at''. subst (λ (us : List Use). IsCodeLinked plant us d e) (runs_of_task fed r t c.requires.fed.runs_are) (each k t d e at at' at'') in
    let declared = rw c.as_slice-2.ensures.value at c.in_ok-tasks.ensures in
    resource_made plant r c.args.draft.now c.new.result c.in_ok-name.name listed c.in_ok-tasks.tasks.items codes c.new.ensures c.in_ok-name.ensures c.in_ok-lines.ensures declared many of_tasks
