use Rattle.std.proofs.Common.{ap, ◌∙◌}
use Rattle.std.specs.List.{find}
use Rattle.plant_grammar.specs.Names.{is_named}
use Rattle.plant.specs.ProgramTypes.{TypeValue}
use Rattle.plant.proofs.ReadTexts.{program_found}
use Rattle.plant.proofs.read.read_program.Goals as goal

pub returns-clause-ok : goal.returns-clause-ok
returns-clause-ok c =
    program_found c.args.text.now c.args.name.now c.in_ok-reading.reading.types c.in_ok-reading.field-0-1 c.take_named.result c.in_ok-reading.ensures.ok
    (c.take_named.ensures ∙ ap (find (λ (t : TypeValue). is_named c.args.name.now t.program.name)) c.into_types.ensures)
