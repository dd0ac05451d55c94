use Rattle.std.proofs.Common.{take}
use Rattle.std.specs.List.{AllZip}
use Rattle.text_commands.specs.Rows.{texts}
use Rattle.text_commands.specs.Series.{IsItem}
use Rattle.text_commands.proofs.items.items_of.Given as goal

abbrev pub invariant-loop-part : goal.invariant-loop-part
invariant-loop-part l = AllZip (IsItem l.kind) (take l.part-index (texts l.parts)) l.items.items
