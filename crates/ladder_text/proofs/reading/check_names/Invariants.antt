use Rattle.std.proofs.Common.{ℕ, ◌<◌, IsFalse}
use Rattle.std.specs.List.{list_any}
use Rattle.ladder_text.specs.Places.{layout_of}
use Rattle.ladder_text.specs.Names.{things}
use Rattle.ladder_text.specs.Faults.{name_missing}
use Rattle.ladder_text.proofs.reading.check_names.Given as goal

abbrev pub invariant-loop-row : goal.invariant-loop-row
invariant-loop-row l = (r : ℕ) → r < l.row → IsFalse (list_any (name_missing (layout_of l.worded) r) (things (layout_of l.worded) r))
