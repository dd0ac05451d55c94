-- A line is that of one message of a plant alone.
use Rattle.std.specs.Prelude.{◌≡◌, ℕ, List}
use Rattle.plant.specs.PlantValue.{PlantValue}
use Rattle.plant.specs.PlantText.{IsPlantText}
use Rattle.evaluation.specs.Messages.{MessageValue}
use Rattle.text_lines.specs.MessageLines.{message_line, IsMessageOf}

-- messages with one line, of a plant that a text spells, are equal
abbrev pub OneMessage : Type 0
OneMessage =
    (text : List ℕ) (plant : PlantValue) → IsPlantText text plant → (m n : MessageValue) → IsMessageOf plant m
    → IsMessageOf plant n → message_line plant m ≡ message_line plant n → m ≡ n
