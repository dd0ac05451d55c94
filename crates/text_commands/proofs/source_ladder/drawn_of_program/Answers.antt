use Rattle.std.proofs.Common.{string_bytes}
use Rattle.text_commands.proofs.SourceLadders.{program_drawn}
use Rattle.text_commands.proofs.source_ladder.drawn_of_program.Goals as goal

pub returns-in_ok-drawn_of_type-in-Some-clause-ok : goal.returns-in_ok-drawn_of_type-in-Some-clause-ok
returns-in_ok-drawn_of_type-in-Some-clause-ok c =
    let found = rw c.in-Some.is at c.in_ok-found.ensures.ok in
    let drawn = c.in_ok-drawn_of_type-in-Some in
    program_drawn c.args.text.now c.args.name.now c.in-Some.found drawn.field-0.ladder.value (string_bytes drawn.field-0.drawing) drawn.field-0.retained.items found drawn.ensures.ladder drawn.ensures.drawing drawn.ensures.retained
