-- What helps to mend a text that is refused.
use Rattle.std.specs.Prelude.{◌≡◌, ◌⊎◌, ℕ, ◌++◌, List, [], Option, Some, None, codes}
use Rattle.guidance.specs.declared.topic.Topic.{Topic}
use Rattle.guidance.specs.declared.topic.Topic.TheVariants as topic
use Rattle.text_commands.specs.declared.text_fault.TextFault.{TextFault}
use Rattle.text_commands.specs.declared.text_fault.TextFault.TheVariants.{Draw, Graph, Bind, Plant, TooLong, Second}
use Rattle.guidance.specs.Topics.{told_of, of_drawing, of_networks, of_names, of_plant}
use Rattle.guidance.specs.Excerpts.{marked_column, marked_line}

-- a name isn't declared
abbrev pub IsUndeclared : Topic → Type 0
IsUndeclared t = (t ≡ topic.UnknownName) ⊎ (t ≡ topic.PlantUnknownName)

-- The text is what is shown, the sentence on this kind and a line feed; behind it perhaps names, where one isn't declared.
pub record TellsTopic (t : Topic) (shown text : List ℕ) : Type 0 where
  pub names : List ℕ
  pub is : text ≡ shown ++ (told_of t).sentence ++ codes "\n" ++ names
  pub only : IsUndeclared t ⊎ (names ≡ [])

-- it tells of this kind, or is empty where there is none
abbrev pub TellsOf : Option Topic → List ℕ → List ℕ → Type 0
TellsOf None shown text = text ≡ []
TellsOf (Some t) shown text = TellsTopic t shown text

-- the kind of fault for which a text was refused; none is told of a second text
abbrev pub topic_of : TextFault → Option Topic
topic_of (Draw fault) = of_drawing fault.kind
topic_of (Graph fault) = of_networks fault.kind
topic_of (Bind fault) = of_names fault.kind
topic_of (Plant fault) = of_plant fault.kind fault.inner
topic_of TooLong = Some topic.TooLong
topic_of (Second fault) = None

-- What is shown of a text that was refused: of a drawing the line of the fault, with a mark below its column; of a plant its
-- line, marked as a whole; of a plan that is too long, and of a second text, nothing.
abbrev pub shown_of : List ℕ → TextFault → List ℕ
shown_of text (Draw fault) = marked_column text fault.line fault.column
shown_of text (Graph fault) = marked_column text fault.line fault.column
shown_of text (Bind fault) = marked_column text fault.line fault.column
shown_of text (Plant fault) = marked_line text fault.line
shown_of text TooLong = []
shown_of text (Second fault) = []
