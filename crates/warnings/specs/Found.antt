-- What is warned of in a drawing.
use Rattle.std.specs.Prelude.{ℕ, ◌==◌, ◌&&◌, ◌||◌, ◌++◌, not, nat_lt, Bool, true, false, if◌then◌else◌, List, [], ◌∷◌}
use Rattle.std.specs.List.{list_any, flat_map}
use Rattle.std.specs.Option.{option_map_or}
use Rattle.std.specs.Str.{bytes_eq, str_to_ascii_lowercase}
use Rattle.drawings.specs.Lines.{line_of_row}
use Rattle.drawings.specs.declared.coil.CoilKind.{CoilKind}
use Rattle.drawings.specs.declared.coil.CoilKind.TheVariants as coil
use Rattle.drawings.specs.declared.place.Place.{Place}
use Rattle.drawings.specs.declared.drawn_box.DrawnPin.{DrawnPin}
use Rattle.drawings.specs.declared.drawn_box.Side.{Side}
use Rattle.drawings.specs.declared.drawn_box.Side.TheVariants.{Left, Right}
use Rattle.network.specs.declared.element.Element.{Element}
use Rattle.network.specs.declared.element.Element.TheVariants.{Wire, Join, Upright, Contact, Coil, Box}
use Rattle.network.specs.GraphValue.{GraphValue}
use Rattle.network.specs.Links.{place}
use Rattle.warnings.specs.Near.{is_near}
use Rattle.warnings.specs.declared.warning.Warning.{Warning}
use Rattle.warnings.specs.declared.warning.WarningKind.{WarningKind}
use Rattle.warnings.specs.declared.warning.WarningKind.TheVariants.{DoubleCoil, MistypedContact}

-- a name in small letters
abbrev pub small : List ℕ → List ℕ
small name = str_to_ascii_lowercase name

-- a warning at a place of a drawing that begins with this line
abbrev pub warning_at : WarningKind → ℕ → Place → Warning
warning_at kind first_line p =
    record { kind = kind; line = line_of_row first_line p.row; column = p.column }

-- a coil stores in each scan, whatever arrives: all but set and reset coils
abbrev pub stores_always : CoilKind → Bool
stores_always coil.Plain = true
stores_always coil.Negated = true
stores_always coil.Set = false
stores_always coil.Reset = false
stores_always coil.Rise = true
stores_always coil.Fall = true

-- a coil that stores into this variable in each scan
abbrev pub stores_into : List ℕ → Element → Bool
stores_into name (Wire at) = false
stores_into name (Join at) = false
stores_into name (Upright at) = false
stores_into name (Contact c) = false
stores_into name (Coil c) = stores_always c.kind && bytes_eq (small c.name) name
stores_into name (Box b) = false

-- a coil that stores in each scan is overwritten by another one among the later elements
abbrev pub double_at : ℕ → Element → List Element → List Warning
double_at first_line (Wire at) later = []
double_at first_line (Join at) later = []
double_at first_line (Upright at) later = []
double_at first_line (Contact c) later = []
double_at first_line (Coil c) later =
    if stores_always c.kind && list_any (stores_into (small c.name)) later
    then warning_at DoubleCoil first_line (place c.row c.column) ∷ [] else []
double_at first_line (Box b) later = []

-- the coils that are overwritten, of elements in the order of their evaluation
abbrev pub doubles : ℕ → List Element → List Warning
doubles first_line [] = []
doubles first_line (e ∷ later) = double_at first_line e later ++ doubles first_line later

-- the names at the pins of a side
abbrev pub is_right : Side → Bool
is_right Left = false
is_right Right = true

-- the name at a pin
abbrev pub pin_names : DrawnPin → List (List ℕ)
pin_names pin = option_map_or (λ operand. operand.text ∷ []) pin.operand []

-- the name that an output pin stores into
abbrev pub stored_at_pin : DrawnPin → List (List ℕ)
stored_at_pin pin = if is_right pin.side then pin_names pin else []

-- the names that an element reads or stores into
abbrev pub names_at : Element → List (List ℕ)
names_at (Wire at) = []
names_at (Join at) = []
names_at (Upright at) = []
names_at (Contact c) = c.name ∷ []
names_at (Coil c) = c.name ∷ []
names_at (Box b) = flat_map pin_names b.pins

-- the names that an element stores into
abbrev pub stored_at : Element → List (List ℕ)
stored_at (Wire at) = []
stored_at (Join at) = []
stored_at (Upright at) = []
stored_at (Contact c) = []
stored_at (Coil c) = c.name ∷ []
stored_at (Box b) = flat_map stored_at_pin b.pins

-- a name is one of these, in either case
abbrev pub is_among : List ℕ → List (List ℕ) → Bool
is_among name names = list_any (λ other. bytes_eq (small other) (small name)) names

-- a name is nearly one of these, in either case
abbrev pub is_near_any : List ℕ → List (List ℕ) → Bool
is_near_any name names = list_any (λ other. is_near (small name) (small other)) names

-- a name without a dot, which is no output of a block
abbrev pub is_undotted : List ℕ → Bool
is_undotted name = not (list_any (λ c. c == 46) name)

-- nothing stores into the variable of this name, and another name is nearly the same
abbrev pub is_mistyped : List ℕ → List (List ℕ) → List (List ℕ) → Bool
is_mistyped name stored names = is_undotted name && not (is_among name stored) && is_near_any name names

-- a contact with such a name
abbrev pub mistyped_at : ℕ → List (List ℕ) → List (List ℕ) → Element → List Warning
mistyped_at first_line stored names (Wire at) = []
mistyped_at first_line stored names (Join at) = []
mistyped_at first_line stored names (Upright at) = []
mistyped_at first_line stored names (Contact c) =
    if is_mistyped c.name stored names then warning_at MistypedContact first_line (place c.row c.column) ∷ [] else []
mistyped_at first_line stored names (Coil c) = []
mistyped_at first_line stored names (Box b) = []

-- the contacts with a name that is most likely mistyped
abbrev pub mistyped : ℕ → List Element → List Warning
mistyped first_line elements =
    flat_map (mistyped_at first_line (flat_map stored_at elements) (flat_map names_at elements)) elements

-- a warning is told before another: in a line above, or further left in its line
abbrev pub is_told_before : Warning → Warning → Bool
is_told_before v w = nat_lt v.line w.line || (v.line == w.line && nat_lt v.column w.column)

-- the elements of a drawing in the order of their evaluation: network after network, by column and then row
abbrev pub all_elements : GraphValue → List Element
all_elements graph = flat_map (λ (elements : List Element). elements) graph.networks
