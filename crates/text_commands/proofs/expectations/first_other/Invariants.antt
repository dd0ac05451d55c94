use Rattle.std.proofs.Common.{take}
use Rattle.text_commands.specs.TestText.{AgreesAt}
use Rattle.text_commands.proofs.expectations.first_other.Given as goal

abbrev pub invariant-loop-row : goal.invariant-loop-row
invariant-loop-row l = AgreesAt (take l.row-index l.expected) l.k l.state.slots
