use Rattle.plant.proofs.sources.feeds.find_value.Goals as goal
use Rattle.plant.proofs.Sourcing.{no_instance, no_output, value_found}
use Rattle.plant.proofs.Members.{read_at, read_item}
use Rattle.plant.specs.PlantValue.{ResourceValue}
use Rattle.task_codes.specs.CodeValue.{ProgramValue, CodeValue}
use Rattle.plant_grammar.specs.Names.{IsAt}
use Rattle.lists.proofs.Places.{some_same}
use Rattle.std.proofs.lemmas.Option.{slice_get_within}
use Rattle.std.proofs.Common.{rules, ◌≡◌, ◌∙◌, ◌<◌, length, refl, sym, subst, inl, inr}

pub returns-in_default-find_instance-clause-refused : goal.returns-in_default-find_instance-clause-refused
returns-in_default-find_instance-clause-refused c = λ apart.
    let drafts = c.args.drafts.now in
    let k = c.in-Some.position in
    let d = c.index-drafts-position.result in
    let found = rw c.as_str.ensures at c.in-Some.ensures in
    let at = read_at (λ (r : ResourceValue). r.name) drafts c.args.resource.now k found.0 d found.1 c.index-drafts-position.is in
    no_instance drafts apart c.args.resource.now c.args.instance.now c.args.output.now k d at (rw (c.tasks-tasks.ensures, c.as_str-2.ensures) at c.in_default-find_instance.ensures)

pub bounds-tasks-task : goal.bounds-tasks-task
bounds-tasks-task c = slice_get_within c.tasks-tasks.result.now c.in-Some-find_instance.task c.in-Some-find_instance.ensures.code c.in-Some-find_instance.ensures.code_is

pub offset_bounds-tasks-task : goal.offset_bounds-tasks-task
offset_bounds-tasks-task c =
    let within : c.in-Some-find_instance.task < length c.tasks-tasks.result.now = slice_get_within c.tasks-tasks.result.now c.in-Some-find_instance.task c.in-Some-find_instance.ensures.code c.in-Some-find_instance.ensures.code_is in
    search rules

pub returns-in_default-find_output-clause-refused : goal.returns-in_default-find_output-clause-refused
returns-in_default-find_output-clause-refused c = λ apart.
    let drafts = c.args.drafts.now in
    let k = c.in-Some.position in
    let d = c.index-drafts-position.result in
    let found = rw c.as_str.ensures at c.in-Some.ensures in
    let at = read_at (λ (r : ResourceValue). r.name) drafts c.args.resource.now k found.0 d found.1 c.index-drafts-position.is in
    let m = c.in-Some-find_instance.task in
    let n = c.in-Some-find_instance.program in
    let run = rw (c.tasks-tasks.ensures, c.as_str-2.ensures) at c.in-Some-find_instance.ensures in
    let e = c.index-tasks-task.result in
    let code = read_item d.codes m run.code e run.code_is (rw c.tasks-tasks.ensures at c.index-tasks-task.is) in
    let same : run.code ≡ e = some_same (sym run.code_is ∙ code) in
    let program = subst (λ (x : CodeValue). IsAt (λ (p : ProgramValue). p.name) x.programs c.args.instance.now n run.program) same run.program_is in
    no_output drafts apart c.args.resource.now c.args.instance.now c.args.output.now k d at m n e run.program code program (rw c.as_str-3.ensures at c.in_default-find_output.ensures)

pub returns-clause-ok : goal.returns-clause-ok
returns-clause-ok c =
    let drafts = c.args.drafts.now in
    let k = c.in-Some.position in
    let d = c.index-drafts-position.result in
    let found = rw c.as_str.ensures at c.in-Some.ensures in
    let at = read_at (λ (r : ResourceValue). r.name) drafts c.args.resource.now k found.0 d found.1 c.index-drafts-position.is in
    let m = c.in-Some-find_instance.task in
    let n = c.in-Some-find_instance.program in
    let run = rw (c.tasks-tasks.ensures, c.as_str-2.ensures) at c.in-Some-find_instance.ensures in
    let e = c.index-tasks-task.result in
    let code = read_item d.codes m run.code e run.code_is (rw c.tasks-tasks.ensures at c.index-tasks-task.is) in
    let same : run.code ≡ e = some_same (sym run.code_is ∙ code) in
    let program = subst (λ (x : CodeValue). IsAt (λ (p : ProgramValue). p.name) x.programs c.args.instance.now n run.program) same run.program_is in
    value_found drafts c.args.resource.now c.args.instance.now c.args.output.now k m n d e run.program c.in-Some-find_output.place c.in-Some-find_output.kind at code program (rw c.as_str-3.ensures at c.in-Some-find_output.ensures)

pub returns-in_default-find_instance-clause-missing : goal.returns-in_default-find_instance-clause-missing
returns-in_default-find_instance-clause-missing c =
    let drafts = c.args.drafts.now in
    let k = c.in-Some.position in
    let d = c.index-drafts-position.result in
    let found = rw c.as_str.ensures at c.in-Some.ensures in
    let at = read_at (λ (r : ResourceValue). r.name) drafts c.args.resource.now k found.0 d found.1 c.index-drafts-position.is in
    inr (inl (k, d, at, (λ m n is. (rw (c.tasks-tasks.ensures, c.as_str-2.ensures) at c.in_default-find_instance.ensures) m n is), refl))

pub returns-in_default-find_output-clause-missing : goal.returns-in_default-find_output-clause-missing
returns-in_default-find_output-clause-missing c =
    let drafts = c.args.drafts.now in
    let k = c.in-Some.position in
    let d = c.index-drafts-position.result in
    let found = rw c.as_str.ensures at c.in-Some.ensures in
    let at = read_at (λ (r : ResourceValue). r.name) drafts c.args.resource.now k found.0 d found.1 c.index-drafts-position.is in
    let run = rw (c.tasks-tasks.ensures, c.as_str-2.ensures) at c.in-Some-find_instance.ensures in
    inr (inr (k, d, at, c.in-Some-find_instance.task, c.in-Some-find_instance.program, run, refl))
