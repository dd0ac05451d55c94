use Rattle.std.proofs.Common.{take}
use Rattle.verifying.specs.Steps.Marks.{HeldRead}
use Rattle.verifying.proofs.held.held_settings.Given as goal

abbrev pub invariant-loop-number : goal.invariant-loop-number
invariant-loop-number l = HeldRead l.marks (take l.number l.rows) l.held.items
