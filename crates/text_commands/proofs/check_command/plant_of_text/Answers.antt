use Rattle.text_commands.proofs.PlantRefusing.{plant_refused}
use Rattle.text_commands.proofs.check_command.plant_of_text.Goals as goal

pub returns-in_err-read-clause-err : goal.returns-in_err-read-clause-err
returns-in_err-read-clause-err c =
    plant_refused c.args.text.now c.in_err-read.field-0.0 c.from_residual.result c.from_residual.ensures.1 c.in_err-read.ensures.value c.in_err-read.ensures.refused c.in_err-read.ensures.syntax c.in_err-read.ensures.body c.in_err-read.ensures.name
