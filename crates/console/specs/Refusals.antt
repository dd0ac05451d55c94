-- The first line of what is told of a text that is refused, and of a variable that isn't what the words expect.
use Rattle.std.specs.Prelude.{ℕ, ◌++◌, if◌then◌else◌, List, Option, Some, None, codes, encode_utf8, string_bytes}
use Rattle.std.specs.Fmt.{decimal}
use Rattle.std.specs.Str.{chars}
use Rattle.std.specs.List.{flat_map}
use Rattle.std.specs.Char.{is_control}
use Rattle.ladder_text.specs.declared.draw_fault.DrawFaultKind.{DrawFaultKind}
use Rattle.ladder_text.specs.declared.draw_fault.DrawFaultKind.TheVariants as draw
use Rattle.network.specs.declared.fault.GraphFaultKind.{GraphFaultKind}
use Rattle.network.specs.declared.fault.GraphFaultKind.TheVariants as graph
use Rattle.name_faults.specs.declared.bind_fault.BindKind.{BindKind}
use Rattle.name_faults.specs.declared.bind_fault.BindKind.TheVariants as bind
use Rattle.plant.specs.declared.plant_fault.PlantFaultKind.{PlantFaultKind}
use Rattle.plant.specs.declared.plant_fault.PlantFaultKind.TheVariants as plant
use Rattle.plant.specs.declared.plant_fault.BodyFault.{BodyFault}
use Rattle.plant.specs.declared.plant_fault.BodyFault.TheVariants as body
use Rattle.std_blocks.specs.declared.value.Value.{Value}
use Rattle.text_lines.specs.LineParts.{value_text}
use Rattle.text_commands.specs.declared.text_fault.TextFault.{TextFault}
use Rattle.text_commands.specs.declared.text_fault.TextFault.TheVariants.{Draw, Graph, Bind, Plant, TooLong, Second}
use Rattle.text_commands.specs.declared.second_fault.SecondFault.TheVariants as second
use Rattle.text_commands.specs.declared.difference.Difference.{Difference}

-- a word as messages show it: a control character is a question mark
abbrev pub shown_char : ℕ → List ℕ
shown_char c = if is_control c then codes "?" else encode_utf8 c

abbrev pub shown : List ℕ → List ℕ
shown word = flat_map shown_char (chars word)

-- the name of each kind of fault of a drawing
abbrev pub kind_of_drawing : DrawFaultKind → List ℕ
kind_of_drawing draw.NotAscii = codes "NotAscii"
kind_of_drawing draw.TooLarge = codes "TooLarge"
kind_of_drawing draw.NoLeftRail = codes "NoLeftRail"
kind_of_drawing draw.BadBox = codes "BadBox"
kind_of_drawing draw.BadMark = codes "BadMark"
kind_of_drawing draw.Crossing = codes "Crossing"
kind_of_drawing draw.NoSource = codes "NoSource"
kind_of_drawing draw.NameMissing = codes "NameMissing"
kind_of_drawing draw.StrayName = codes "StrayName"
kind_of_drawing draw.Memory = codes "Memory"

-- of its networks
abbrev pub kind_of_networks : GraphFaultKind → List ℕ
kind_of_networks graph.Unattached = codes "Unattached"
kind_of_networks graph.TooTall = codes "TooTall"
kind_of_networks graph.InstanceTwice = codes "InstanceTwice"
kind_of_networks graph.Memory = codes "Memory"

-- of its names
abbrev pub kind_of_names : BindKind → List ℕ
kind_of_names bind.UnknownName = codes "UnknownName"
kind_of_names bind.WrongKind = codes "WrongKind"
kind_of_names bind.WritesInput = codes "WritesInput"
kind_of_names bind.UnknownPin = codes "UnknownPin"
kind_of_names bind.PinMissing = codes "PinMissing"
kind_of_names bind.LiteralOutOfRange = codes "LiteralOutOfRange"
kind_of_names bind.Memory = codes "Memory"

-- of a plant
abbrev pub kind_of_plant : PlantFaultKind → List ℕ
kind_of_plant plant.Syntax = codes "Syntax"
kind_of_plant plant.Drawing = codes "Drawing"
kind_of_plant plant.Graph = codes "Graph"
kind_of_plant plant.Bind = codes "Bind"
kind_of_plant plant.NameTwice = codes "NameTwice"
kind_of_plant plant.UnknownName = codes "UnknownName"
kind_of_plant plant.WrongKind = codes "WrongKind"
kind_of_plant plant.InputBoundTwice = codes "InputBoundTwice"
kind_of_plant plant.TooMany = codes "TooMany"
kind_of_plant plant.Memory = codes "Memory"

-- of the body of one of its programs
abbrev pub kind_of_body : BodyFault → List ℕ
kind_of_body (body.Drawing kind) = kind_of_drawing kind
kind_of_body (body.Graph kind) = kind_of_networks kind
kind_of_body (body.Bind kind) = kind_of_names kind

-- FILE:LINE:COLUMN: Kind
abbrev pub at_place : List ℕ → ℕ → ℕ → List ℕ → List ℕ
at_place file line column kind =
    shown file ++ codes ":" ++ decimal line ++ codes ":" ++ decimal column ++ codes ": " ++ kind

-- FILE:LINE: Kind, and where it is that of a body, that one's behind it
abbrev pub at_line : List ℕ → ℕ → PlantFaultKind → Option BodyFault → List ℕ
at_line file line kind None = shown file ++ codes ":" ++ decimal line ++ codes ": " ++ kind_of_plant kind
at_line file line kind (Some inner) =
    shown file ++ codes ":" ++ decimal line ++ codes ": " ++ kind_of_plant kind ++ codes " " ++ kind_of_body inner

-- the first line of what is told of the text of a file that is refused
abbrev pub refusal_of : List ℕ → TextFault → List ℕ
refusal_of file (Draw fault) = at_place file fault.line fault.column (kind_of_drawing fault.kind)
refusal_of file (Graph fault) = at_place file fault.line fault.column (kind_of_networks fault.kind)
refusal_of file (Bind fault) = at_place file fault.line fault.column (kind_of_names fault.kind)
refusal_of file (Plant fault) = at_line file fault.line fault.kind fault.inner
refusal_of file TooLong = codes "plan: TooLong"
refusal_of file (Second (second.Draw fault)) = at_place file fault.line fault.column (kind_of_drawing fault.kind)
refusal_of file (Second (second.Graph fault)) = at_place file fault.line fault.column (kind_of_networks fault.kind)
refusal_of file (Second (second.Bind fault)) = at_place file fault.line fault.column (kind_of_names fault.kind)

-- the first line of what is told of the schedule of a file of which a line is no event
abbrev pub no_event : List ℕ → ℕ → List ℕ
no_event file line = shown file ++ codes ":" ++ decimal line ++ codes ": Syntax"

-- FILE: NAME is VALUE after scan N, expected VALUE, with values as a line has them
abbrev pub difference_text : List ℕ → List ℕ → ℕ → Value → Value → List ℕ
difference_text file name scan value expected =
    (shown file ++ codes ": " ++ name ++ codes " is " ++ value_text value ++ codes " after ")
    ++ (codes "scan " ++ decimal scan ++ codes ", expected " ++ value_text expected)

-- what is told of a variable that isn't what the words expect
abbrev pub difference_line : List ℕ → Difference → List ℕ
difference_line file difference =
    difference_text file (string_bytes difference.name) difference.scan difference.value difference.expected
