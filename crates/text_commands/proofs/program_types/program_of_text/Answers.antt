use Rattle.text_commands.proofs.PlantRefusing.{plant_refused}
use Rattle.text_commands.proofs.program_types.program_of_text.Goals as goal

pub returns-in_err-read_program-clause-err : goal.returns-in_err-read_program-clause-err
returns-in_err-read_program-clause-err c =
    let why = c.in_err-read_program.ensures in
    plant_refused c.args.text.now c.in_err-read_program.field-0.0 c.from_residual.result c.from_residual.ensures.1 why.value why.refused why.syntax why.body why.name
