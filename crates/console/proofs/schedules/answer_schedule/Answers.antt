use Rattle.console.proofs.Ended.{lines_simulated}
use Rattle.console.proofs.schedules.answer_schedule.Goals as goal

pub returns-then-eq : goal.returns-then-eq
returns-then-eq g c =
    let read = rw c.in-Ok.is at c.in_ok-plant.ensures in
    lines_simulated c.args.request.now c.in-Ok.plant.value c.write_lines.result read c.write_lines.ensures
