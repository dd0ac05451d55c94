-- Names by what is done with them.
use Rattle.std.specs.Prelude.{ℕ, List}
use Rattle.drawings.specs.declared.drawn_box.DrawnPin.{DrawnPin}
use Rattle.network.specs.declared.element.Element.{Element}
use Rattle.warnings.specs.Found.{pin_names, stored_at_pin, names_at, stored_at}
use Rattle.warnings.specs.NeverRead.{read_at_pin, read_at}
use Rattle.warnings.specs.declared.names.NameUse.{NameUse}
use Rattle.warnings.specs.declared.names.NameUse.TheVariants.{Any, Stored, Read}

-- the names that a pin uses so
abbrev pub used_at_pin : NameUse → DrawnPin → List (List ℕ)
used_at_pin Any = pin_names
used_at_pin Stored = stored_at_pin
used_at_pin Read = read_at_pin

-- the names that an element uses so
abbrev pub used_at : NameUse → Element → List (List ℕ)
used_at Any = names_at
used_at Stored = stored_at
used_at Read = read_at
