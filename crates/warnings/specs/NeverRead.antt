-- What is stored in a program and never read.
use Rattle.std.specs.Prelude.{ℕ, ◌&&◌, ◌++◌, not, Bool, true, false, if◌then◌else◌, List, [], ◌∷◌, Option, Some, None, slice_get}
use Rattle.std.specs.List.{flat_map}
use Rattle.std.specs.List.Sorted.{IsPermutation, IsSortedBy}
use Rattle.std.specs.Option.{option_map_or}
use Rattle.drawings.specs.declared.place.Place.{Place}
use Rattle.drawings.specs.declared.drawn_box.DrawnPin.{DrawnPin}
use Rattle.declared_names.specs.Names.{place_of}
use Rattle.declared_names.specs.declared.declarations.Declaration.{Declaration}
use Rattle.declared_names.specs.declared.declarations.Declared.{Declared}
use Rattle.declared_names.specs.declared.declarations.Declared.TheVariants.{Input, Output, Local, Instance}
use Rattle.network.specs.declared.element.Element.{Element}
use Rattle.network.specs.declared.element.Element.TheVariants.{Wire, Join, Upright, Contact, Coil, Box}
use Rattle.network.specs.GraphValue.{GraphValue}
use Rattle.network.specs.Links.{place}
use Rattle.warnings.specs.declared.warning.Warning.{Warning}
use Rattle.warnings.specs.declared.warning.WarningKind.TheVariants.{NeverRead}
use Rattle.warnings.specs.Presets.{presets}
use Rattle.warnings.specs.Found.{warning_at, is_right, pin_names, is_among, doubles, all_elements, is_told_before}

-- a declared variable is neither an input nor an output
abbrev pub is_local_one : Declared → Bool
is_local_one (Input kind) = false
is_local_one (Output kind) = false
is_local_one (Local kind) = true
is_local_one (Instance block) = false

-- what is declared at a place is a local variable
abbrev pub is_local_at : List Declaration → Option ℕ → Bool
is_local_at ds None = false
is_local_at ds (Some k) = option_map_or (λ (d : Declaration). is_local_one d.declared) (slice_get ds k) false

-- a name, in either case, is that of a local variable
abbrev pub is_local : List Declaration → List ℕ → Bool
is_local ds name = is_local_at ds (place_of ds name)

-- the name that an input pin reads
abbrev pub read_at_pin : DrawnPin → List (List ℕ)
read_at_pin pin = if is_right pin.side then [] else pin_names pin

-- the names that an element reads
abbrev pub read_at : Element → List (List ℕ)
read_at (Wire at) = []
read_at (Join at) = []
read_at (Upright at) = []
read_at (Contact c) = c.name ∷ []
read_at (Coil c) = []
read_at (Box b) = flat_map read_at_pin b.pins

-- a variable that is stored into at a place is a local one that nothing reads
abbrev pub unread : ℕ → List Declaration → List (List ℕ) → List ℕ → Place → List Warning
unread first_line ds read name p =
    if is_local ds name && not (is_among name read) then warning_at NeverRead first_line p ∷ [] else []

-- an output pin stores into such a variable
abbrev pub unread_at_pin : ℕ → List Declaration → List (List ℕ) → DrawnPin → List Warning
unread_at_pin first_line ds read pin =
    if is_right pin.side
    then option_map_or (λ operand. unread first_line ds read operand.text (place pin.row operand.column)) pin.operand []
    else []

-- an element stores into such variables
abbrev pub unread_at : ℕ → List Declaration → List (List ℕ) → Element → List Warning
unread_at first_line ds read (Wire at) = []
unread_at first_line ds read (Join at) = []
unread_at first_line ds read (Upright at) = []
unread_at first_line ds read (Contact c) = []
unread_at first_line ds read (Coil c) = unread first_line ds read c.name (place c.row c.column)
unread_at first_line ds read (Box b) = flat_map (unread_at_pin first_line ds read) b.pins

-- where local variables are stored into that nothing reads
abbrev pub never_read : ℕ → List Declaration → List Element → List Warning
never_read first_line ds elements = flat_map (unread_at first_line ds (flat_map read_at elements)) elements

-- all that is warned of in the drawing of a program, with so many milliseconds from each evaluation to the next, or 0 where none
-- are given
unfoldable pub found_in_a_program : ℕ → ℕ → List Declaration → List Element → List Warning
found_in_a_program dt first_line ds elements =
    doubles first_line elements ++ never_read first_line ds elements ++ presets dt first_line elements

-- The warnings of a program with these declarations and this time between evaluations: those of all its elements, each once;
-- told by line and then column.
pub record AreProgramWarnings (dt : ℕ) (graph : GraphValue) (ds : List Declaration) (warnings : List Warning) : Type 0 where
  pub all : IsPermutation (found_in_a_program dt graph.first_line ds (all_elements graph)) warnings
  pub sorted : IsSortedBy is_told_before warnings
