-- Timers that are done between two scans.
use Rattle.std.specs.Prelude.{ℕ, ◌%◌, ◌==◌, ◌&&◌, ◌++◌, not, Bool, true, false, if◌then◌else◌, List, [], ◌∷◌, codes}
use Rattle.std.specs.List.{flat_map}
use Rattle.std.specs.Option.{option_map_or}
use Rattle.std.specs.Str.{str_eq_ignore_ascii_case}
use Rattle.std_blocks.specs.declared.block_type.BlockType.{BlockType}
use Rattle.std_blocks.specs.declared.block_type.BlockType.TheVariants.{SR, RS, CTU, CTD, CTUD, TP, TON, TOF}
use Rattle.words.specs.Numbers.{duration_up_to}
use Rattle.drawings.specs.declared.drawn_box.DrawnPin.{DrawnPin}
use Rattle.drawings.specs.declared.drawn_box.Operand.{Operand}
use Rattle.network.specs.declared.element.Element.{Element}
use Rattle.network.specs.declared.element.Element.TheVariants.{Wire, Join, Upright, Contact, Coil, Box}
use Rattle.network.specs.Links.{place}
use Rattle.warnings.specs.declared.warning.Warning.{Warning}
use Rattle.warnings.specs.declared.warning.WarningKind.TheVariants.{PresetBetweenScans}
use Rattle.warnings.specs.Found.{warning_at, is_right}

-- a block is a timer
abbrev pub is_timer : BlockType → Bool
is_timer SR = false
is_timer RS = false
is_timer CTU = false
is_timer CTD = false
is_timer CTUD = false
is_timer TP = true
is_timer TON = true
is_timer TOF = true

-- a pin is an input of this name, in either case
abbrev pub is_input_named : List ℕ → DrawnPin → Bool
is_input_named name pin = not (is_right pin.side) && str_eq_ignore_ascii_case pin.name name

-- with so many milliseconds from each scan to the next, no scan comes this long after another; with 0 none is given
abbrev pub is_between_scans : ℕ → ℕ → Bool
is_between_scans dt time = not (dt == 0) && not (time % dt == 0)

-- a word is a duration that ends between two scans
abbrev pub ends_between_scans : ℕ → List ℕ → Bool
ends_between_scans dt word = option_map_or (is_between_scans dt) (duration_up_to 2147483647 word) false

-- a duration that ends between two scans stands at a pin
abbrev pub preset_at : ℕ → ℕ → ℕ → Operand → List Warning
preset_at dt first_line row operand =
    if ends_between_scans dt operand.text
    then warning_at PresetBetweenScans first_line (place row operand.column) ∷ [] else []

-- the same of a pin that is PT
abbrev pub preset_at_pin : ℕ → ℕ → DrawnPin → List Warning
preset_at_pin dt first_line pin =
    if is_input_named (codes "PT") pin then option_map_or (preset_at dt first_line pin.row) pin.operand [] else []

-- the same of a timer
abbrev pub presets_of : ℕ → ℕ → Element → List Warning
presets_of dt first_line (Wire at) = []
presets_of dt first_line (Join at) = []
presets_of dt first_line (Upright at) = []
presets_of dt first_line (Contact c) = []
presets_of dt first_line (Coil c) = []
presets_of dt first_line (Box b) = if is_timer b.block then flat_map (preset_at_pin dt first_line) b.pins else []

-- the durations at PT of timers that end between two scans
abbrev pub presets : ℕ → ℕ → List Element → List Warning
presets dt first_line elements = flat_map (presets_of dt first_line) elements
