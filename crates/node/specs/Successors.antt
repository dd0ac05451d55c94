-- Runs of which the later one is given the keepers that the earlier one left.
use Rattle.std.specs.Prelude.{◌≡◌, ℕ, ◌<◌, List, Some, Contains, slice_get}
use Rattle.plant.specs.PlantValue.{PlantValue}
use Rattle.keepers.specs.Keepers.{Telling}
use Rattle.node_reports.specs.declared.journal.Journal.{Journal}
use Rattle.node_reports.specs.declared.node_fault.NodeFault.{NodeFault}
use Rattle.node_reports.specs.Journals.{BeginAbove}
use Rattle.node_reports.specs.Reports.{AreJournalsOf, incarnations_of}
use Rattle.node.specs.Keeping.{KeepAllLeft}

-- These keepers keep what a run left, and a later run begins above what they hold: each incarnation of a resource in the later
-- run is above each one in the earlier run.
abbrev pub RunsRise : {K : Type 0} → (K → ℕ) → (K → Telling) → Type 0
RunsRise {K} last tells =
    (plant next : PlantValue) (max_number limit : ℕ) (faults : List NodeFault) (keepers : List K) (old new : List Journal)
    → AreJournalsOf plant max_number old → KeepAllLeft last tells plant faults keepers old
    → AreJournalsOf next limit new → BeginAbove last keepers new
    → (k earlier later : ℕ) (a b : Journal) → slice_get old k ≡ Some a → slice_get new k ≡ Some b
    → Contains (incarnations_of a) earlier → Contains (incarnations_of b) later → earlier < later
