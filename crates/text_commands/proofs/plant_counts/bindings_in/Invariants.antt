use Rattle.std.proofs.Common.{◌≡◌, length, take, sum_by}
use Rattle.text_commands.proofs.plant_counts.bindings_in.Given as goal

abbrev pub invariant-loop-program : goal.invariant-loop-program
invariant-loop-program l = l.count ≡ sum_by length (take l.program l.code.bindings)
