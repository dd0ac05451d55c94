-- What later coils store into, as a set.
use Rattle.std.specs.Prelude.{◌≡◌, ◌&&◌, ◌||◌, ℕ, if◌then◌else◌, List, [], ◌∷◌, String}
use Rattle.std.specs.List.{list_any}
use Rattle.std.specs.Global.{Global}
use Rattle.std.specs.BTreeSet.{BTreeSet, contains_text}
use Rattle.network.specs.declared.element.Element.{Element}
use Rattle.network.specs.declared.element.Element.TheVariants.{Wire, Join, Upright, Contact, Coil, Box}
use Rattle.network.specs.Links.{place}
use Rattle.warnings.specs.declared.warning.Warning.{Warning}
use Rattle.warnings.specs.declared.warning.WarningKind.TheVariants.{DoubleCoil}
use Rattle.warnings.specs.Found.{small, stores_always, stores_into, warning_at}

-- a set has the small letters of the variables that coils of these elements store into in each scan
abbrev pub HasStored : List Element → BTreeSet (String Global) → Type 0
HasStored elements set = (q : List ℕ) → contains_text set q ≡ list_any (stores_into q) elements

-- to a set comes what a coil stores into in each scan
abbrev pub TakesStored : BTreeSet (String Global) → Element → BTreeSet (String Global) → Type 0
TakesStored old e new = (q : List ℕ) → contains_text new q ≡ (stores_into q e || contains_text old q)

-- what is warned of at an element, where later coils store into the variables of this set
abbrev pub double_with : ℕ → Element → BTreeSet (String Global) → List Warning
double_with first_line (Wire at) stored = []
double_with first_line (Join at) stored = []
double_with first_line (Upright at) stored = []
double_with first_line (Contact c) stored = []
double_with first_line (Coil c) stored =
    if stores_always c.kind && contains_text stored (small c.name)
    then warning_at DoubleCoil first_line (place c.row c.column) ∷ [] else []
double_with first_line (Box b) stored = []
