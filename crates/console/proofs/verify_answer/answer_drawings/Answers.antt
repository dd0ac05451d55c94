use Rattle.std.proofs.Common.{option_map}
use Rattle.console.proofs.Ended.{drawings_answered}
use Rattle.console.proofs.verify_answer.answer_drawings.Goals as goal

pub returns-in-Ok : goal.returns-in-Ok
returns-in-Ok g c =
    let read = rw c.in-Ok.is at c.in_ok-other.ensures in
    drawings_answered c.args.request.now c.args.text.now c.in-Ok.other (option_map (λ t. t.now) c.text_of.result) c.answer_drawing.result read c.text_of.ensures c.answer_drawing.ensures
