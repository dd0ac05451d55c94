use Rattle.std.proofs.Common.{take, IsFalse}
use Rattle.std.specs.List.{list_any}
use Rattle.ladder_text.specs.Places.{layout_of}
use Rattle.ladder_text.specs.Faults.{stray_name}
use Rattle.ladder_text.proofs.names.names_above.stray_in_row.Given as goal

abbrev pub invariant-loop-word : goal.invariant-loop-word
invariant-loop-word l = IsFalse (list_any (stray_name (layout_of l.worded) l.row) (take l.word-index l.word-items))
