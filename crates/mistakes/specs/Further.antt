-- The faults behind the first.
use Rattle.std.specs.Prelude.{◌≡◌, ◌⊎◌, ℕ, List}
use Rattle.text_commands.specs.declared.text_fault.TextFault.{TextFault}
use Rattle.text_commands.specs.Comments.{without_comments}
use Rattle.text_commands.specs.EvalText.{RefusesDrawing}
use Rattle.text_commands.specs.CheckText.{RefusesPlantText}
use Rattle.slips.specs.Rows.{rows_of}
use Rattle.mistakes.specs.Emptied.{without_rows}

-- what is left of a text where some rows, one below the other, are emptied, each to its rail or to nothing
pub record IsEmptiedFrom (text rest : List ℕ) : Type 0 where
  pub first : ℕ
  pub count : ℕ
  pub column : ℕ
  pub is : rest ≡ without_rows first count column (rows_of text)

-- what is left of a text whose rows are emptied, as often as need be
pub data IsLeftOf (text : List ℕ) : List ℕ → Type 0 where
  whole : IsLeftOf text text
  less : (more rest : List ℕ) → IsLeftOf text more → IsEmptiedFrom more rest → IsLeftOf text rest

-- `eval` or `check` refuses a text for this fault
abbrev pub Refuses : List ℕ → TextFault → Type 0
Refuses text fault = RefusesDrawing text fault ⊎ RefusesPlantText text fault

-- it refuses for this fault what is left of a text
pub record IsFurtherIn (text : List ℕ) (fault : TextFault) : Type 0 where
  pub rest : List ℕ
  pub left : IsLeftOf text rest
  pub refused : Refuses rest fault

-- a fault behind the first: that of what is left of the text without its comments
abbrev pub IsFurther : List ℕ → TextFault → Type 0
IsFurther text fault = IsFurtherIn (without_comments text) fault
