use Rattle.std.proofs.Common.{take}
use Rattle.std.specs.List.{AllZip}
use Rattle.text_commands.specs.Rows.{texts}
use Rattle.text_commands.specs.Series.{IsCount}
use Rattle.text_commands.proofs.restart_words.scans_of.Given as goal

abbrev pub invariant-loop-part : goal.invariant-loop-part
invariant-loop-part l = AllZip IsCount (take l.part-index (texts l.parts)) l.scans.items
