use Rattle.std.specs.Prelude.{◌≡◌, ℕ, ◌==◌, ◌&&◌, ◌||◌, not, nat_lt, Bool, false, List, [], ◌∷◌, map, filter, take, if◌then◌else◌}
use Rattle.std.specs.Char.{is_ascii_digit}
use Rattle.std.specs.List.{list_any, enumerate_from, flat_map}
use Rattle.std.specs.List.Sorted.{IsPermutation, IsSortedBy, IsStableBy}
use Rattle.std.specs.Option.{option_map_or}
use Rattle.std.specs.Str.{str_eq_ignore_ascii_case}
use Rattle.std_blocks.specs.declared.block_type.BlockType.{BlockType}
use Rattle.drawings.specs.declared.drawn_box.DrawnPin.{DrawnPin}
use Rattle.network.specs.declared.element.Element.{Element}
use Rattle.network.specs.declared.element.Element.TheVariants.{Wire, Join, Upright, Contact, Coil, Box}
use Rattle.network.specs.GraphValue.{GraphValue}
use Rattle.declared_names.specs.declared.declarations.Declaration.{Declaration}
use Rattle.declared_names.specs.declared.declarations.Declared.{Declared}
use Rattle.declared_names.specs.declared.declarations.Declared.TheVariants.{Local, Instance}
use Rattle.declared_names.specs.declared.declarations.Kind.TheVariants as kind
use Rattle.name_faults.specs.declared.name_use.NameUse.{NameUse}
use Rattle.name_faults.specs.PinKinds.{pin_kind}

-- a word is a name by itself: it begins with no digit, as numbers do, and has neither a dot nor the # of a duration
abbrev pub is_plain : List ℕ → Bool
is_plain [] = false
is_plain (c ∷ word) =
    not (is_ascii_digit c) && not (list_any (λ b. b == 46) (c ∷ word)) && not (list_any (λ b. b == 35) (c ∷ word))

-- a use of its parts
abbrev pub name_use : ℕ → ℕ → List ℕ → Declared → NameUse
name_use row column name declared = record { row = row; column = column; name = name; declared = declared }

-- the use that a word makes, if it is a name by itself
abbrev pub word_uses : ℕ → ℕ → List ℕ → Declared → List NameUse
word_uses row column word declared = if is_plain word then name_use row column word declared ∷ [] else []

-- the name at a pin is a local of the pin's kind
abbrev pub pin_uses : BlockType → DrawnPin → List NameUse
pin_uses block pin =
    option_map_or (λ operand. word_uses pin.row operand.column operand.text (Local (pin_kind block pin))) pin.operand []

-- the name of a symbol is a local BOOL, that of a box an instance of its type
abbrev pub element_uses : Element → List NameUse
element_uses (Wire at) = []
element_uses (Join at) = []
element_uses (Upright at) = []
element_uses (Contact c) = word_uses c.row c.column c.name (Local kind.Bool)
element_uses (Coil c) = word_uses c.row c.column c.name (Local kind.Bool)
element_uses (Box b) = name_use b.top b.left b.instance (Instance b.block) ∷ flat_map (pin_uses b.block) b.pins

-- all uses of names
abbrev pub uses_of : List (List Element) → List NameUse
uses_of networks = flat_map (λ elements. flat_map element_uses elements) networks

-- a use stands before another: in a row above, or further left in its row
abbrev pub is_before : NameUse → NameUse → Bool
is_before u v = nat_lt u.row v.row || (u.row == v.row && nat_lt u.column v.column)

-- the use at place k is the first of its name: none of those ahead of it has the name, in either case
abbrev pub is_first : List NameUse → ℕ → NameUse → Bool
is_first uses k u = not (list_any (λ v. str_eq_ignore_ascii_case v.name u.name) (take k uses))

-- what a use declares
abbrev pub declaration_of : NameUse → Declaration
declaration_of u = record { name = u.name; declared = u.declared }

-- the first use of each name, in order
unfoldable pub first_uses : List NameUse → List Declaration
first_uses uses =
    map (λ (e : ℕ × NameUse). declaration_of e.1)
    (filter (λ (e : ℕ × NameUse). is_first uses e.0 e.1) (enumerate_from 0 uses))

-- The declarations of a drawing by the uses of its names: all uses are put in order by row and then column,
-- and the first of each name declares it.
-- Uses at one place keep their order; no drawing has two.
pub record AreGuessed (graph : GraphValue) (declarations : List Declaration) : Type 0 where
  pub uses : List NameUse
  pub all : IsPermutation (uses_of graph.networks) uses
  pub sorted : IsSortedBy is_before uses
  pub stable : IsStableBy is_before (uses_of graph.networks) uses
  pub first : declarations ≡ first_uses uses
