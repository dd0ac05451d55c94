use Rattle.std.proofs.Common.{◌≡◌, map, take}
use Rattle.std.specs.List.{flat_map}
use Rattle.warnings.specs.Found.{mistyped_at, stored_at, names_at}
use Rattle.warnings.specs.Steps.NameSets.{ArePlain}
use Rattle.warnings.proofs.mistyped.mistyped.Given as goal

abbrev pub invariant-loop-element : goal.invariant-loop-element
invariant-loop-element l = ArePlain l.stored l.names.items l.plain × (l.found.items ≡ flat_map (mistyped_at l.first_line (flat_map stored_at (map (λ e. e.now) l.elements)) (flat_map names_at (map (λ e. e.now) l.elements))) (map (λ e. e.now) (take l.element-index l.elements)))
