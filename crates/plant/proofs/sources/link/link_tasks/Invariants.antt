use Rattle.std.proofs.Common.{◌≡◌, length, map}
use Rattle.std.specs.Borrow.{Bor}
use Rattle.plant_grammar.specs.declared.grammar.tree.TaskLine.{TaskLine}
use Rattle.plant.specs.Steps.Drafts.{drafted, IsCodeLinked, Triples}
use Rattle.plant.specs.Steps.FedUses.{fed_in, runs_in_fed}
use Rattle.plant.proofs.sources.link.link_tasks.Given as goal

abbrev pub invariant-loop-i : goal.invariant-loop-i
invariant-loop-i l = record {
  many : length l.codes.items ≡ l.i;
  each : Triples (λ t d c. IsCodeLinked (drafted l.drafts) (runs_in_fed (fed_in t l.fed)) d c) (map (λ (t : Bor TaskLine). t.now) l.tasks) l.task_drafts (map (λ c. c.value) l.codes.items);
}
