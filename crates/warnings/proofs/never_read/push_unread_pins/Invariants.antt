use Rattle.std.proofs.Common.{◌≡◌, ◌++◌, ℕ, List, take}
use Rattle.std.specs.List.{flat_map}
use Rattle.warnings.specs.NeverRead.{unread_at_pin}
use Rattle.warnings.specs.Steps.NameSets.{AreSmall}
use Rattle.warnings.proofs.never_read.push_unread_pins.Given as goal

abbrev pub invariant-loop-pin : goal.invariant-loop-pin
invariant-loop-pin l = (xs : List (List ℕ)) → AreSmall xs l.read
    → l.warnings.items ≡ l.initial.warnings.items ++ flat_map (unread_at_pin l.first_line l.declarations xs) (take l.pin-index l.pins)
