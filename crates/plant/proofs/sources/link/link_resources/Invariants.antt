use Rattle.std.proofs.Common.{◌≡◌, length}
use Rattle.plant.specs.Steps.Drafts.{drafted, IsResourceLinked, Triples}
use Rattle.plant.proofs.sources.link.link_resources.Given as goal

abbrev pub invariant-loop-i : goal.invariant-loop-i
invariant-loop-i l = record {
  many : length l.linked.items ≡ l.i;
  each : Triples (IsResourceLinked (drafted l.drafts)) l.resources l.drafts l.linked.items;
}
