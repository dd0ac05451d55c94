-- The lines so far were read.
use Rattle.keepers.specs.Steps.Reading.{AreRead}
use Rattle.keepers.proofs.retained_text.read_lines.Given as goal

abbrev pub invariant-loop-k : goal.invariant-loop-k
invariant-loop-k l = AreRead l.code l.text l.k l.values.items l.rest
