-- How far the counts of counters matter.
use Rattle.std.specs.Prelude.{◌≡◌, ◌≢◌, ◌⊎◌, ℕ, ℤ, pos, List, Bool, true, false, Option, Some, None, All, Any, MatchOption, if◌then◌else◌, int_lt, codes, slice_get, slice_index_or}
use Rattle.std.specs.List.{after_first}
use Rattle.std.specs.Option.{option_map}
use Rattle.std_blocks.specs.declared.block_type.BlockType.{BlockType}
use Rattle.std_blocks.specs.declared.block_type.BlockType.TheVariants.{CTU, CTD}
use Rattle.std_blocks.specs.declared.value.Value.TheVariants.{Int as IntValue}
use Rattle.words.specs.Chars.{same_word}
use Rattle.drawings.specs.declared.drawn_box.DrawnBox.{DrawnBox}
use Rattle.drawings.specs.declared.drawn_box.DrawnPin.{DrawnPin}
use Rattle.drawings.specs.declared.drawn_box.Side.TheVariants.{Left, Right}
use Rattle.network.specs.declared.element.Element.{Element}
use Rattle.network.specs.declared.element.Element.TheVariants.{Wire, Join, Upright, Contact, Coil, Box}
use Rattle.network.specs.Links.{Diagram}
use Rattle.declared_names.specs.declared.declarations.Declaration.{Declaration}
use Rattle.declared_names.specs.declared.declarations.Declared.{Declared}
use Rattle.declared_names.specs.declared.declarations.Declared.TheVariants.{Input, Output, Local, Instance as InstanceOf}
use Rattle.declared_names.specs.Names.{place_of, is_dot}
use Rattle.name_faults.specs.Literals.{literal_value}
use Rattle.scan_steps.specs.declared.slot.Instance.{Instance}
use Rattle.scan_steps.specs.declared.slot.Slot.{Slot}
use Rattle.scan_steps.specs.declared.slot.Slot.TheVariants.{Variable, Block}
use Rattle.needed_networks.specs.declared.count_limit.CountLimit.{CountLimit}
use Rattle.needed_networks.specs.declared.count_limit.CountLimit.TheVariants.{Whole, UpTo, FromZero}
use Rattle.needed_networks.specs.Needs.{IsReadAt}

-- a count as far as it matters: all of it, or no more than the most, or no less than 0
abbrev pub limited_count : CountLimit → ℤ → ℤ
limited_count Whole count = count
limited_count (UpTo most) count = if int_lt most count then most else count
limited_count FromZero count = if int_lt count (pos 0) then pos 0 else count

-- a block with its count, and the CV that it shows, as far as they matter
abbrev pub limited_instance : CountLimit → Instance → Instance
limited_instance limit i = record {
  state = record i.state { count = limited_count limit i.state.count };
  outputs = record i.outputs { int = limited_count limit i.outputs.int };
}

abbrev pub limited_slot : CountLimit → Slot → Slot
limited_slot limit (Variable v) = Variable v
limited_slot limit (Block i) = Block (limited_instance limit i)

-- the limit of what stands at a place: beyond the last one there is none
abbrev pub limit_at : List CountLimit → ℕ → CountLimit
limit_at limits place = slice_index_or limits place Whole

-- what stands at a place, as far as it matters
abbrev pub limited_at : List CountLimit → List Slot → ℕ → Option Slot
limited_at limits slots place = option_map (limited_slot (limit_at limits place)) (slice_get slots place)

-- counters up alone have a most, and counters down alone a least
abbrev pub MayLimit : CountLimit → BlockType → Type 0
MayLimit Whole block = Unit {0}
MayLimit (UpTo most) block = block ≡ CTU
MayLimit FromZero block = block ≡ CTD

-- so it is with the blocks that stand at the places
abbrev pub AreCounters : List CountLimit → List Slot → Type 0
AreCounters limits slots = (k : ℕ) (i : Instance) → slice_get slots k ≡ Some (Block i) → MayLimit (limit_at limits k) i.state.block

-- and with those that are declared
abbrev pub MayLimitDeclared : CountLimit → Declared → Type 0
MayLimitDeclared limit (Input kind) = Unit {0}
MayLimitDeclared limit (Output kind) = Unit {0}
MayLimitDeclared limit (Local kind) = Unit {0}
MayLimitDeclared limit (InstanceOf block) = MayLimit limit block

-- the count of the block at a place is limited
abbrev pub IsLimited : List CountLimit → ℕ → Type 0
IsLimited limits place = limit_at limits place ≢ Whole

-- the pin is PV, in either case
abbrev pub IsPresetPin : DrawnPin → Type 0
IsPresetPin pin = (pin.side ≡ Left) × (same_word pin.name (codes "PV") ≡ true)

-- the pin PV has this number
abbrev pub IsPreset : ℤ → DrawnPin → Type 0
IsPreset most pin = IsPresetPin pin × MatchOption pin.operand ⊥ (λ o. literal_value o.text ≡ Some (IntValue most))

-- nothing stands at the pin, if it is PV
abbrev pub HasNoPreset : DrawnPin → Type 0
HasNoPreset pin = IsPresetPin pin → pin.operand ≡ None

-- PV has this number, or it is 0, and nothing stands there
abbrev pub CountsTo : ℤ → DrawnBox → Type 0
CountsTo most b = Any (IsPreset most) b.pins ⊎ ((most ≡ pos 0) × All HasNoPreset b.pins)

-- the most of a counter up is its PV
abbrev pub HasPreset : CountLimit → DrawnBox → Type 0
HasPreset Whole b = Unit {0}
HasPreset (UpTo most) b = CountsTo most b
HasPreset FromZero b = Unit {0}

-- an input pin reads nothing of a limited counter but Q
abbrev pub ReadsNoCount : List Declaration → List CountLimit → DrawnPin → Type 0
ReadsNoCount ds limits pin = pin.side ≡ Left
    → MatchOption pin.operand (Unit {0}) (λ o. (k : ℕ) → IsReadAt ds o.text k → IsLimited limits k
    → same_word (after_first is_dot o.text) (codes "Q") ≡ true)

-- an output pin stores nothing of it but Q
abbrev pub StoresNoCount : DrawnPin → Type 0
StoresNoCount pin = pin.side ≡ Right → MatchOption pin.operand (Unit {0}) (λ o. same_word pin.name (codes "Q") ≡ true)

-- a box of a counter with a limit
abbrev pub IsLimitedBox : List CountLimit → DrawnBox → ℕ → Type 0
IsLimitedBox limits b k = HasPreset (limit_at limits k) b × (IsLimited limits k → All StoresNoCount b.pins)

-- an element shows and counts nothing beyond the limits
abbrev pub ShowsNoCount : List Declaration → List CountLimit → Element → Type 0
ShowsNoCount ds limits (Wire at) = Unit {0}
ShowsNoCount ds limits (Join at) = Unit {0}
ShowsNoCount ds limits (Upright at) = Unit {0}
ShowsNoCount ds limits (Contact c) = Unit {0}
ShowsNoCount ds limits (Coil c) = Unit {0}
ShowsNoCount ds limits (Box b) =
    All (ReadsNoCount ds limits) b.pins × ((k : ℕ) → place_of ds b.instance ≡ Some k → IsLimitedBox limits b k)

-- two elements aren't two boxes of one limited counter
abbrev pub AreOneBox : List Declaration → List CountLimit → Element → Element → Type 0
AreOneBox ds limits e f = (b c : DrawnBox) (k : ℕ) → e ≡ Box b → f ≡ Box c → place_of ds b.instance ≡ Some k
    → place_of ds c.instance ≡ Some k → IsLimited limits k → b ≡ c

-- a network shows and counts nothing beyond the limits, and has each limited counter once
pub record HidesCounts (ds : List Declaration) (limits : List CountLimit) (d : Diagram) : Type 0 where
  pub shows : All (ShowsNoCount ds limits) d.elements
  pub once : All (λ e. All (AreOneBox ds limits e) d.elements) d.elements

-- limits of counts that can't be told from others beyond them, in the networks that aren't left out
pub record AreLimits (ds : List Declaration) (limits : List CountLimit) (omitted : List Bool) (networks : List Diagram) : Type 0 where
  pub declared : (k : ℕ) (e : Declaration) → slice_get ds k ≡ Some e → MayLimitDeclared (limit_at limits k) e.declared
  pub hidden : (k : ℕ) (d : Diagram) → slice_get networks k ≡ Some d → slice_index_or omitted k false ≡ false
      → HidesCounts ds limits d
