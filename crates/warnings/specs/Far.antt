-- Field addresses far from all others that a resource reads.
use Rattle.std.specs.Prelude.{ℕ, ◌+◌, ◌==◌, ◌&&◌, ◌++◌, not, nat_le, Bool, true, false, if◌then◌else◌, List, [], ◌∷◌}
use Rattle.std.specs.List.{list_any, flat_map}
use Rattle.std.specs.Option.{option_map_or}
use Rattle.words.specs.declared.address.Address.{Address}
use Rattle.words.specs.declared.address.Space.{Space}
use Rattle.words.specs.declared.address.Space.TheVariants.{Bit, Word}
use Rattle.plant_grammar.specs.declared.grammar.tree.Bind.{Bind}
use Rattle.plant_grammar.specs.declared.grammar.tree.Item.{Item}
use Rattle.plant_grammar.specs.declared.grammar.tree.Item.TheVariants.{Task as TaskItem, Use as UseItem}
use Rattle.plant_grammar.specs.declared.grammar.tree.Resource.{Resource}
use Rattle.plant_grammar.specs.declared.grammar.tree.SourceName.{SourceName}
use Rattle.plant_grammar.specs.declared.grammar.tree.SourceName.TheVariants.{Field, Output}
use Rattle.plant_grammar.specs.declared.grammar.tree.Use.{Use}
use Rattle.warnings.specs.declared.far_address.FarAddress.{FarAddress}

-- an address by its resource, its instance and the input that reads it
pub record AddressNames : Type 0 where
  pub resource : List ℕ
  pub instance : List ℕ
  pub input : List ℕ
  pub address : Address

-- the names in what is told
abbrev pub address_in : FarAddress → AddressNames
address_in f = record { resource = f.resource; instance = f.instance; input = f.input; address = f.address }

-- another number is at most 63 away
abbrev pub is_other_near : ℕ → ℕ → Bool
is_other_near n other = not (other == n) && nat_le other (n + 63) && nat_le n (other + 63)

-- one of these numbers is another one, at most 63 away
abbrev pub has_near : List ℕ → ℕ → Bool
has_near numbers n = list_any (is_other_near n) numbers

-- a number is more than 63 away from each other one of these, while two others are at most 63 apart
abbrev pub is_far : List ℕ → ℕ → Bool
is_far numbers n = not (has_near numbers n) && list_any (has_near numbers) numbers

-- an address is of a space
abbrev pub is_of_space : Space → Space → Bool
is_of_space Bit Bit = true
is_of_space Bit Word = false
is_of_space Word Bit = false
is_of_space Word Word = true

-- the number that a source is in a space of addresses
abbrev pub number_of : Space → SourceName → List ℕ
number_of space (Field a) = if is_of_space space a.space then a.number ∷ [] else []
number_of space (Output resource instance output) = []

-- the inputs that an instance binds
abbrev pub binds_of : Use → List Bind
binds_of used = option_map_or (λ binds. binds.items) used.binds []

-- the numbers that an instance reads in a space
abbrev pub numbers_of_item : Space → Item → List ℕ
numbers_of_item space (TaskItem task) = []
numbers_of_item space (UseItem used) = flat_map (λ (bind : Bind). number_of space bind.source) (binds_of used)

-- the numbers that a resource reads in a space
abbrev pub numbers_of : Space → List Item → List ℕ
numbers_of space items = flat_map (numbers_of_item space) items

-- an input that reads an address of this space, far from all others of these numbers
abbrev pub far_source : Space → List ℕ → List ℕ → List ℕ → List ℕ → SourceName → List AddressNames
far_source space numbers resource instance input (Field a) =
    if is_of_space space a.space && is_far numbers a.number
    then record { resource = resource; instance = instance; input = input; address = a } ∷ [] else []
far_source space numbers resource instance input (Output r i o) = []

abbrev pub far_at : Space → List ℕ → List ℕ → List ℕ → Bind → List AddressNames
far_at space numbers resource instance bind = far_source space numbers resource instance bind.input bind.source

-- those of an instance
abbrev pub far_of_item : Space → List ℕ → List ℕ → Item → List AddressNames
far_of_item space numbers resource (TaskItem task) = []
far_of_item space numbers resource (UseItem used) =
    flat_map (far_at space numbers resource used.instance) (binds_of used)

-- those of a resource in a space: each input that reads an address far from all others that the resource reads there
abbrev pub far_in : Space → Resource → List AddressNames
far_in space resource =
    flat_map (far_of_item space (numbers_of space resource.items.items) resource.name) resource.items.items

-- those of a resource, bits before words
unfoldable pub far_of : Resource → List AddressNames
far_of resource = far_in Bit resource ++ far_in Word resource

-- those of all resources
abbrev pub all_far : List Resource → List AddressNames
all_far resources = flat_map far_of resources
