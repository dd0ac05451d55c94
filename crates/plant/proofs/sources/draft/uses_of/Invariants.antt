use Rattle.std.proofs.Common.{◌≡◌, take, map}
use Rattle.std.specs.Borrow.{Bor}
use Rattle.std.specs.List.{flat_map}
use Rattle.plant_grammar.specs.declared.grammar.tree.Use.{Use}
use Rattle.plant_grammar.specs.Lawful.{use_of}
use Rattle.plant.proofs.sources.draft.uses_of.Given as goal

abbrev pub invariant-loop-item : goal.invariant-loop-item
invariant-loop-item l = map (λ (u : Bor Use). u.now) l.uses.items ≡ flat_map use_of (take l.item-index l.resource.items.items)
