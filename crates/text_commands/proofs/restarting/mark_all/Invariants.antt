use Rattle.std.proofs.Common.{◌≡◌, take}
use Rattle.text_commands.specs.Steps.Marks.{with_marks}
use Rattle.text_commands.proofs.restarting.mark_all.Given as goal

abbrev pub invariant-loop-place : goal.invariant-loop-place
invariant-loop-place l = l.marks.items ≡ with_marks (take l.place-index l.places) l.initial.marks.items
