use Rattle.std.proofs.Common.{◌≡◌, map, take}
use Rattle.std.specs.List.{flat_map}
use Rattle.warnings.specs.NeverRead.{unread_at, read_at}
use Rattle.warnings.proofs.never_read.never_read.Given as goal

abbrev pub invariant-loop-element : goal.invariant-loop-element
invariant-loop-element l = l.found.items ≡ flat_map (unread_at l.first_line l.declarations (flat_map read_at (map (λ e. e.now) l.elements))) (map (λ e. e.now) (take l.element-index l.elements))
