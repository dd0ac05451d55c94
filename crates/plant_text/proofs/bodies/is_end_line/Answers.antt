use Rattle.plant_text.proofs.BodyLines.{end_line_then, end_line_else}
use Rattle.plant_text.proofs.bodies.is_end_line.Goals as goal

pub returns-then-is_end_program : goal.returns-then-is_end_program
returns-then-is_end_program c = end_line_then c.args.line.now c.behind_gap-rest.result.now c.letters-word.result.now c.behind.result.now c.behind_gap.result.now c.may_run_on.result c.behind_gap-rest.ensures c.letters-word.ensures c.behind.ensures c.behind_gap.ensures (c.is_end_program.ensures.0 c.if-is_end_program.true) c.may_run_on.ensures

pub returns-else-is_end_program : goal.returns-else-is_end_program
returns-else-is_end_program c = end_line_else c.args.line.now c.behind_gap-rest.result.now c.letters-word.result.now c.is_end_program.result c.behind_gap-rest.ensures c.letters-word.ensures c.is_end_program.ensures.1 c.if-is_end_program.false
