use Rattle.std.proofs.Common.{string_bytes}
use Rattle.verifying_plants.proofs.plant_command.verify_plant_text.Goals as goal

pub returns-clause-ok : goal.returns-clause-ok
returns-clause-ok g c =
    let whole = rw c.as_str.ensures.value at c.in_ok-write_text.ensures.whole in
    let told = c.in_ok-answer.ensures.ok in
    record { plant = told.plant; read = told.read; text = string_bytes c.in_ok-answer.answer; answer = told.answer; appended = whole; summed = told.summed }
