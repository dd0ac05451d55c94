-- What a drawing shows after each of some scans, with what has power in it.
use Rattle.std.specs.Prelude.{ℕ, ◌++◌, List, [], ◌∷◌, Bool, length}
use Rattle.network.specs.Links.{Diagram}
use Rattle.declared_names.specs.declared.declarations.Declaration.{Declaration}
use Rattle.scan_steps.specs.declared.slot.Slot.{Slot}
use Rattle.power_flow.specs.Shown.{ShowsPower}
use Rattle.text_commands.specs.Series.{set_before}
use Rattle.text_commands.specs.Restarts.{GivenValue, first_slots, memories_off, opened_memories, opened_slots}
use Rattle.text_commands.specs.Lines.{line_of}
use Rattle.text_commands.specs.LiveDrawing.{live_drawing}

-- What stands at each name after each of some scans, after the last one the memories, and the text. All begins as
-- declared and with memories OFF. Before each scan the ladder restarts, where that is asked for; then the variables are
-- set. The scan has the meaning of the networks, and shows which elements have power in it; it adds its line and the
-- drawing with these.
pub data IsShown (drawing : List ℕ) (color : Bool) (ds : List Declaration) (networks : List Diagram) (dt : ℕ)
    (given : GivenValue) : List (List Slot) → List Slot → List Bool → List ℕ → Type 0 where
  begun : IsShown drawing color ds networks dt given [] (first_slots ds) (memories_off networks) []
  after : {states : List (List Slot)} {slots slots' : List Slot} {memories memories' : List Bool} {text : List ℕ}
      → (shown : List Bool)
      → IsShown drawing color ds networks dt given states slots memories text
      → ShowsPower ds dt networks (set_before given.rows (length states) (opened_slots ds given (length states) slots))
      (opened_memories networks given (length states) memories) slots' memories' shown
      → IsShown drawing color ds networks dt given (states ++ slots' ∷ []) slots' memories'
      (text ++ (line_of ds slots' ++ live_drawing color drawing networks shown))
