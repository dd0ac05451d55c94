use Rattle.std.proofs.Common.{take}
use Rattle.text_commands.specs.Rows.{texts}
use Rattle.text_commands.specs.Expectations.{SpellTest}
use Rattle.text_commands.proofs.test_words.read_test_words.Given as goal

abbrev pub invariant-loop-number : goal.invariant-loop-number
invariant-loop-number l = SpellTest l.declarations (take l.number (texts l.words)) l.rows.items l.expected.items
