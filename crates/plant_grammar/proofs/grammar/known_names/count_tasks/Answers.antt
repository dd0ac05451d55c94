use Rattle.std.proofs.Common.{rules, ◌≡◌, ◌∙◌, sym}
use Rattle.std.specs.List.{count_by}
use Rattle.plant_grammar.specs.Steps.ReadParts.{is_task_line}
use Rattle.plant_grammar.proofs.ResourceLines.{tasks_counted}
use Rattle.plant_grammar.proofs.grammar.known_names.count_tasks.Goals as goal

pub returns : goal.returns
returns c =
    let many : c.count.result ≡ count_by is_task_line c.args.items.now = search rules in
    many ∙ sym (tasks_counted c.args.items.now)
