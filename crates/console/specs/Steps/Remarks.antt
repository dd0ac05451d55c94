-- What is told of the whole of a text that is refused.
use Rattle.std.specs.Prelude.{ℕ, Bool, true, false, List, [], ◌∷◌, nat_eq}
use Rattle.std.specs.List.{starts_with}
use Rattle.text_commands.specs.declared.text_fault.TextFault.{TextFault}
use Rattle.text_commands.specs.declared.text_fault.TextFault.TheVariants.{Draw, Graph, Bind, Plant, TooLong, Second}
use Rattle.console.specs.declared.remarks.Look.{Look}
use Rattle.console.specs.declared.remarks.Look.TheVariants as look
use Rattle.console.specs.declared.remarks.Remark.{Remark}
use Rattle.console.specs.declared.remarks.Remark.TheVariants as remark

-- the byte order mark of UTF-8
abbrev pub begins_with_mark : List ℕ → Bool
begins_with_mark text = starts_with nat_eq text (239 ∷ 187 ∷ 191 ∷ [])

-- a plant was read as a drawing
abbrev pub remark_of_drawing : Look → Remark
remark_of_drawing look.Drawing = remark.Nothing
remark_of_drawing look.Plant = remark.Plant
remark_of_drawing look.Other = remark.Nothing

-- a drawing was read as a plant
abbrev pub remark_of_plant : Look → Remark
remark_of_plant look.Drawing = remark.Drawing
remark_of_plant look.Plant = remark.Nothing
remark_of_plant look.Other = remark.Nothing

-- the mark is told of first
abbrev pub remark_of : TextFault → Bool → Look → Remark
remark_of fault true look = remark.Mark
remark_of (Draw fault) false look = remark_of_drawing look
remark_of (Graph fault) false look = remark_of_drawing look
remark_of (Bind fault) false look = remark_of_drawing look
remark_of (Plant fault) false look = remark_of_plant look
remark_of TooLong false look = remark.Nothing
remark_of (Second fault) false look = remark.Nothing
