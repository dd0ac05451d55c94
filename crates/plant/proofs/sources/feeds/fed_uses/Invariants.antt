use Rattle.std.proofs.Common.{take, map}
use Rattle.std.specs.List.{AllZip}
use Rattle.std.specs.Borrow.{Bor}
use Rattle.plant_grammar.specs.declared.grammar.tree.Use.{Use}
use Rattle.plant.specs.Steps.Drafts.{drafted}
use Rattle.plant.specs.Steps.FedUses.{IsUseFed}
use Rattle.plant.proofs.sources.feeds.fed_uses.Given as goal

abbrev pub invariant-loop-run : goal.invariant-loop-run
invariant-loop-run l = AllZip (IsUseFed (drafted l.drafts) l.types) (map (λ (x : Bor Use). x.now) (take l.run-index l.runs)) l.fed.items
