use Rattle.std.proofs.Common.{◌≡◌, take}
use Rattle.warnings.specs.Far.{numbers_of}
use Rattle.warnings.proofs.numbers.numbers_of.Given as goal

abbrev pub invariant-loop-item : goal.invariant-loop-item
invariant-loop-item l = l.numbers.items ≡ numbers_of l.space (take l.item-index l.items)
