-- How a line goes on.
use Rattle.std.specs.Prelude.{◌≡◌, ℕ, ◌++◌, List, [], ◌∷◌, codes, take}
use Rattle.std.specs.List.{join_with_byte}
use Rattle.declared_names.specs.declared.declarations.Declaration.{Declaration}
use Rattle.scan_steps.specs.declared.slot.Slot.{Slot}
use Rattle.text_commands.specs.Lines.{items_of}

-- a line that goes on: behind a blank, but at its beginning
abbrev pub ready : List ℕ → List ℕ
ready [] = []
ready (c ∷ line) = (c ∷ line) ++ codes " "

-- the line has the variables before a place, with one blank between
abbrev pub IsLineTo : ℕ → List Declaration → List Slot → List ℕ → Type 0
IsLineTo place ds slots line = line ≡ join_with_byte 32 (items_of (take place ds) slots)
