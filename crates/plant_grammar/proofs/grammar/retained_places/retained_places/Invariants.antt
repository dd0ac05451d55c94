use Rattle.std.proofs.Common.{◌≡◌, ℕ, take}
use Rattle.std.specs.List.{flat_map, enumerate_from}
use Rattle.plant_grammar.specs.declared.grammar.tree.Section.{Section}
use Rattle.plant_grammar.specs.Retained.{place_if_retained}
use Rattle.plant_grammar.proofs.grammar.retained_places.retained_places.Given as goal

abbrev pub invariant-loop-place : goal.invariant-loop-place
invariant-loop-place l = l.places.items ≡ flat_map (λ (e : ℕ × Section). place_if_retained e.0 e.1) (take l.place (enumerate_from 0 l.section-items))
