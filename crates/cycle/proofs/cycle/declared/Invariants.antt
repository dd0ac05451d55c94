use Rattle.std.proofs.Common.{◌≡◌, ◌++◌, drop}
use Rattle.cycle.specs.Cycle.{declared, declared_from, AllNarrow, AllPositive}
use Rattle.cycle.proofs.cycle.declared.Given as goal

abbrev pub invariant-loop-place : goal.invariant-loop-place
invariant-loop-place l = record {
  so_far : l.cycled.items ++ declared_from l.place (drop l.place l.tasks) ≡ declared l.tasks;
  positive : AllPositive l.cycled.items;
  narrow : AllNarrow l.cycled.items;
}
