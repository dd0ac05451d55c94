-- What a drawing's variables are after each of some scans.
use Rattle.std.specs.Prelude.{ℕ, ◌++◌, ◌≤◌, List, [], ◌∷◌, Bool, length}
use Rattle.network.specs.Links.{Diagram}
use Rattle.declared_names.specs.declared.declarations.Declaration.{Declaration}
use Rattle.scan_steps.specs.declared.slot.Slot.{Slot}
use Rattle.power_flow.specs.Scan.{ScanMeaning}
use Rattle.text_commands.specs.Series.{set_before}
use Rattle.text_commands.specs.Restarts.{GivenValue, first_slots, memories_off, opened_memories, opened_slots}

-- What stands at each name after each of some scans, and after the last one the memories. All begins as declared and
-- with memories OFF. Before each scan the ladder restarts, where that is asked for; then the variables are set, and the
-- scan has the meaning of the networks.
pub data IsTrace (ds : List Declaration) (networks : List Diagram) (dt : ℕ) (given : GivenValue)
    : List (List Slot) → List Slot → List Bool → Type 0 where
  begun : IsTrace ds networks dt given [] (first_slots ds) (memories_off networks)
  after : {states : List (List Slot)} {slots slots' : List Slot} {memories memories' : List Bool}
      → IsTrace ds networks dt given states slots memories
      → ScanMeaning ds dt networks (set_before given.rows (length states) (opened_slots ds given (length states) slots))
      (opened_memories networks given (length states) memories) slots' memories'
      → IsTrace ds networks dt given (states ++ slots' ∷ []) slots' memories'

-- a trace of some scans, at most so many
pub record SomeTrace (ds : List Declaration) (networks : List Diagram) (dt : ℕ) (given : GivenValue) (most : ℕ)
    : Type 0 where
  pub states : List (List Slot)
  pub slots : List Slot
  pub memories : List Bool
  pub trace : IsTrace ds networks dt given states slots memories
  pub few : length states ≤ most
