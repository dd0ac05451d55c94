use Rattle.std.proofs.Common.{◌≡◌, map, take}
use Rattle.warnings.specs.Presets.{presets}
use Rattle.warnings.proofs.presets.presets.Given as goal

abbrev pub invariant-loop-element : goal.invariant-loop-element
invariant-loop-element l = l.found.items ≡ presets l.dt l.first_line (map (λ e. e.now) (take l.element-index l.elements))
