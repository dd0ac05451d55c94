-- There are so many lists, and each is empty.
use Rattle.std.proofs.Common.{◌≡◌, ℕ, [], Some, length, slice_get}
use Rattle.std.specs.Global.{Vec}
use Rattle.audit.specs.declared.line.Line.{Line}
use Rattle.audit.proofs.reading.no_lines.Given as goal

abbrev pub invariant-loop-resource : goal.invariant-loop-resource
invariant-loop-resource l =
    (length l.all.items ≡ l._resource) × ((n : ℕ) (lines : Vec Line) → slice_get l.all.items n ≡ Some lines → lines.items ≡ [])
