-- The line is no START of the first resources.
use Rattle.std.proofs.Common.{ℕ, ◌<◌, List}
use Rattle.std_blocks.specs.declared.value.Value.{Value}
use Rattle.text_lines.specs.MessageLines.{IsSmall}
use Rattle.audit.specs.JournalLines.{AreInRange, IsStart}
use Rattle.audit.proofs.start_line.read_start.Given as goal

abbrev pub invariant-loop-resource : goal.invariant-loop-resource
invariant-loop-resource l =
    (n incarnation : ℕ) (opening : List (List Value)) → n < l.resource → IsSmall incarnation → AreInRange opening → IsStart l.plant n incarnation opening l.line → ⊥
