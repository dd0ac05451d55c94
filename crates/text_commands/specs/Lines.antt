-- What a line shows: the variables after a scan.
use Rattle.std.specs.Prelude.{ℕ, ◌++◌, List, [], ◌∷◌, codes}
use Rattle.std.specs.List.{join_with_byte}
use Rattle.std_blocks.specs.declared.value.Value.{Value}
use Rattle.declared_names.specs.declared.declarations.Declaration.{Declaration}
use Rattle.scan_steps.specs.declared.slot.Slot.{Slot}
use Rattle.scan_steps.specs.declared.slot.Slot.TheVariants.{Variable, Block}
use Rattle.text_lines.specs.LineParts.{value_text}

-- NAME=VALUE
abbrev pub item_text : List ℕ → Value → List ℕ
item_text name value = name ++ codes "=" ++ value_text value

-- the variables in order of declaration; instances are left out
abbrev pub items_of : List Declaration → List Slot → List (List ℕ)
items_of [] slots = []
items_of (d ∷ ds) [] = []
items_of (d ∷ ds) (Variable value ∷ slots) = item_text d.name value ∷ items_of ds slots
items_of (d ∷ ds) (Block block ∷ slots) = items_of ds slots

-- one line: the variables with one blank between, and a line feed
abbrev pub line_of : List Declaration → List Slot → List ℕ
line_of ds slots = join_with_byte 32 (items_of ds slots) ++ codes "\n"
