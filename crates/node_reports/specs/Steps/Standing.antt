-- A core that stands where the steps of its resource have left it. The steps stand with the newest first.
use Rattle.std.specs.Prelude.{◌≡◌, ◌≢◌, ℕ, ◌<◌, List, Some, length, reverse, slice_get}
use Rattle.std_blocks.specs.declared.value.Value.{Value}
use Rattle.task_codes.specs.declared.task_ref.TaskRef.{TaskRef}
use Rattle.plant.specs.PlantValue.{code_at, codes_at, IsSoundPlant}
use Rattle.task_codes.specs.CodeValue.{CodeValue, expected_at}
use Rattle.evaluation.specs.Meaning.{Evaluated}
use Rattle.evaluation.specs.Last.{left_by, last_number}
use Rattle.exchange_core.specs.Held.{known, IsShaped}
use Rattle.exchange_core.specs.CoreValue.{CoreValue, kept_at}
use Rattle.node_reports.specs.declared.step.Step.{Step}
use Rattle.node_reports.specs.declared.step.Step.TheVariants.{Made}
use Rattle.node_reports.specs.declared.journal.Journal.{Journal}
use Rattle.node_reports.specs.Journals.{incarnation_after, heard_after, made_of, last_made, last_of, opening_at, ComesTo, IsGreatestReceived, IsLawful, with_step}

-- the incarnation is the present one, what was heard is what the steps tell, of each task of the resource the last evaluation is known
-- and what a restart would leave of it, and of each task from which one takes the greatest received that is addressed to the incarnation
pub record Stands (resource first : ℕ) (opening : List (List Value)) (before : List Step) (core : CoreValue)
    : Type 0 where
  pub sound : IsSoundPlant core.plant
  pub shaped : IsShaped core.plant core.table
  pub resource_is : core.resource ≡ resource
  pub incarnation_is : core.incarnation ≡ incarnation_after first before
  pub firsts : length core.first ≡ length core.plant.resources
  pub heard_is : core.heard ≡ heard_after core.first resource first before
  pub own : (p : TaskRef) → p.resource ≡ resource → known core.table p ≡ last_made p before
  pub long : length core.kept ≡ length (codes_at core.plant resource)
  pub left : (p : TaskRef) → p.resource ≡ resource → p.task < length core.kept
      → left_by (kept_at core p.task) (known core.table p) ≡ left_by (opening_at opening p) (last_of p before)
  pub counted : (p : TaskRef) → p.resource ≡ resource → last_number (last_made p before) ≡ length (made_of p before)
  pub others : (t : TaskRef) (code : CodeValue) (k : ℕ) (p : TaskRef) → t.resource ≡ resource
      → code_at core.plant t ≡ Some code → slice_get code.producers k ≡ Some p → p.resource ≢ resource
      → IsGreatestReceived before (ComesTo resource (incarnation_after first before) p (expected_at code k)) (known core.table p)

-- a lawful journal, and the core where it has come to
pub record IsStation (core : CoreValue) (j : Journal) : Type 0 where
  pub lawful : IsLawful core.plant core.first core.max_number j
  pub stands : Stands j.resource j.first j.opening (reverse j.steps) core

-- a lawful journal, which with one more evaluation made is still lawful, and the core where it has then come to
pub record IsAhead (core : CoreValue) (j : Journal) (made : Evaluated) : Type 0 where
  pub lawful : IsLawful core.plant core.first core.max_number j
  pub ahead : IsStation core (with_step j (Made made))
