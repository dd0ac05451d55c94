use Rattle.std.proofs.Common.{rules, ◌↔◌, IsTrue, Any}
use Rattle.plant_grammar.specs.Names.{is_named}
use Rattle.plant_grammar.specs.Lawful.{task_of}
use Rattle.plant_grammar.proofs.Apart.{any_among}
use Rattle.plant_grammar.proofs.grammar.known_names.is_task.Goals as goal

pub returns : goal.returns
returns c =
    let lines : IsTrue c.any.result ↔ Any (λ x. Any (λ t. IsTrue (is_named c.args.name.now t.name)) (task_of x)) c.args.items.now = search rules in
    let among = any_among task_of (λ t. is_named c.args.name.now t.name) c.args.items.now in
    ((λ yes. among.0 (lines.0 yes)), (λ some. lines.1 (among.1 some)))
