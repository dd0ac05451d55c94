use Rattle.std.proofs.Common.{◌≡◌, length, ap, arith}
use Rattle.task_codes.specs.CodeValue.{bindings_at}
use Rattle.text_commands.proofs.Counting.{more_or, room_or, at_or_none}
use Rattle.text_commands.proofs.plant_counts.bindings_in.Goals as goal

pub overflow_add-count : goal.overflow_add-count
overflow_add-count c =
    let long : length c.bindings.result.now ≡ length (bindings_at c.args.code.now c.loop-program.program) = ap length c.bindings.ensures in
    omega (arith, room_or length c.args.code.now.bindings c.loop-program.program, at_or_none c.args.code.now.bindings c.loop-program.program, long, c.loop-program.invariant, c.requires)

pub loop-program-preserved : goal.loop-program-preserved
loop-program-preserved c =
    let long : length c.bindings.result.now ≡ length (bindings_at c.args.code.now c.loop-program.program) = ap length c.bindings.ensures in
    omega (arith, more_or length c.args.code.now.bindings c.loop-program.program, at_or_none c.args.code.now.bindings c.loop-program.program, long, c.loop-program.invariant)
