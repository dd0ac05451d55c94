use Rattle.std.proofs.Common.{take}
use Rattle.text_commands.specs.Rows.{texts}
use Rattle.verifying_plants.specs.Ranges.{AreRanges}
use Rattle.verifying_plants.proofs.range_words.read_ranges.Given as goal

abbrev pub invariant-loop-number : goal.invariant-loop-number
invariant-loop-number l = AreRanges (take l.number (texts l.words)) l.ranges.items
