use Rattle.std.proofs.Common.{ℕ, ◌<◌, IsFalse}
use Rattle.std.specs.List.{list_any}
use Rattle.ladder_text.specs.Places.{layout_of}
use Rattle.ladder_text.specs.Names.{words}
use Rattle.ladder_text.specs.Faults.{stray_name}
use Rattle.ladder_text.proofs.reading.first_stray_word.Given as goal

abbrev pub invariant-loop-row : goal.invariant-loop-row
invariant-loop-row l = (r : ℕ) → r < l.row → IsFalse (list_any (stray_name (layout_of l.worded) r) (words (layout_of l.worded) r))
