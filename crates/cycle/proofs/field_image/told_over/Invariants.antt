use Rattle.std.proofs.Common.{◌≡◌, drop}
use Rattle.cycle.specs.Field.{told_over}
use Rattle.cycle.proofs.field_image.told_over.Given as goal

abbrev pub invariant-loop-input : goal.invariant-loop-input
invariant-loop-input l = told_over l.after.items (drop l.input-index l.told) ≡ told_over l.listed l.told
