use Rattle.std.proofs.Common.{take}
use Rattle.text_commands.specs.TestText.{IsOutcome}
use Rattle.text_commands.specs.Steps.Testing.{slots_of}
use Rattle.text_commands.proofs.expectations.first_difference.Given as goal

abbrev pub invariant-loop-k : goal.invariant-loop-k
invariant-loop-k l = IsOutcome l.declarations l.expected (slots_of (take l.k l.states)) l.found
