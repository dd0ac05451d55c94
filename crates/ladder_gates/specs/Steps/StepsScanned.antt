-- A scan of a network by its steps.
use Rattle.std.specs.Prelude.{◌≡◌, ℕ, List, Bool, length}
use Rattle.scan_steps.specs.declared.bound_box.BoundBox.{BoundBox}
use Rattle.scan_steps.specs.declared.slot.Slot.{Slot}
use Rattle.scan_steps.specs.declared.step.BoundCoil.{BoundCoil}
use Rattle.scan_steps.specs.declared.step.Step.{Step}
use Rattle.scan_steps.specs.Steps.Passing.{Pass, ArePassed}
use Rattle.power_flow.specs.Steps.BoxStores.{boxes_stored, kinds_stored}
use Rattle.power_flow.specs.Steps.CoilStores.{bound_memories, bound_stores}

-- the steps are passed, and then boxes and coils store what they leave
pub record AreScanned (boxes : List BoundBox) (coils : List BoundCoil) (steps : List Step) (rows dt : ℕ)
    (slots : List Slot) (memories : List Bool) (after : List Slot) (new : List Bool) : Type 0 where
  pub first : Pass
  pub last : Pass
  pub passed : ArePassed boxes slots dt steps first last
  pub memories_are : first.memories ≡ memories
  pub rows_long : length first.rows ≡ rows
  pub links_long : length first.links ≡ length coils
  pub results_long : length first.results ≡ length boxes
  pub stored : after ≡ kinds_stored (boxes_stored boxes last.results slots)
      (bound_stores coils 0 last.links last.memories)
  pub kept : new ≡ bound_memories coils 0 last.links last.memories
