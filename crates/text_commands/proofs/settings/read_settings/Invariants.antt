use Rattle.std.proofs.Common.{take}
use Rattle.text_commands.specs.Rows.{texts}
use Rattle.text_commands.specs.Series.{SpellSettings}
use Rattle.text_commands.proofs.settings.read_settings.Given as goal

abbrev pub invariant-loop-number : goal.invariant-loop-number
invariant-loop-number l = SpellSettings l.declarations (take l.number (texts l.words)) l.settings.items
