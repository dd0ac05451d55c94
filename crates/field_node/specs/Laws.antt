-- What follows for lines that come by standard input beside a field.
use Rattle.std.specs.Prelude.{◌≡◌, ℕ, Bool, List}
use Rattle.task_codes.specs.declared.task_ref.TaskRef.{TaskRef}
use Rattle.plant.specs.PlantValue.{PlantValue}
use Rattle.evaluation.specs.declared.field_input.FieldInput.{FieldInput}
use Rattle.live_node.specs.NodeLines.{Spells}
use Rattle.live_node.specs.declared.node_line.NodeLine.TheVariants.{Evaluate, Restart}
use Rattle.cycle.specs.declared.origin.Origin.TheVariants.{Neighbours}
use Rattle.cycle.specs.declared.origin.Verdict.TheVariants.{Answer}
use Rattle.cycle.specs.Origins.{verdict_beside_field, word_of_line}

-- Beside a field no line of the neighbours that is answered asks for an evaluation, or for a restart.
abbrev pub NeighboursAskNothing : Type 0
NeighboursAskNothing =
    (cycles : Bool) (plant : PlantValue) (line : List ℕ)
    → verdict_beside_field cycles Neighbours (word_of_line line) ≡ Answer
    → ((t : TaskRef) (dt : ℕ) (inputs : List FieldInput) → Spells plant (Evaluate t dt inputs) line → ⊥)
    × ((resource : ℕ) → Spells plant (Restart resource) line → ⊥)
