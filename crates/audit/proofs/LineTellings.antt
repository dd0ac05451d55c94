-- Lines that tell nothing of a resource.
use Rattle.std.proofs.Common.{◌≡◌, ℕ, ◌++◌, List, inl, inr}
use Rattle.plant.specs.PlantValue.{PlantValue}
use Rattle.live_node.specs.declared.node_line.NodeLine.{NodeLine}
use Rattle.live_node.specs.NodeLines.{Spells, SpellsNothing}
use Rattle.live_node.specs.NodeJournal.{note_end, line_note}
use Rattle.audit.specs.JournalLines.{IsUnnoted, AsksNothing}

pub noted_otherwise : (plant : PlantValue) (n : ℕ) (line : List ℕ) → (line_note line ≡ line ++ note_end → ⊥) → AsksNothing plant n line
noted_otherwise plant n line other = inl other

pub asks_nothing : (plant : PlantValue) (n : ℕ) (line : List ℕ) → SpellsNothing plant line → AsksNothing plant n line
asks_nothing plant n line nothing = inr (inl nothing)

pub asks_foreign : (plant : PlantValue) (n : ℕ) (line : List ℕ) (a : NodeLine) → Spells plant a line → IsUnnoted plant n a → AsksNothing plant n line
asks_foreign plant n line a is not = inr (inr (a, is, not))
