-- What the parts of a world are: its cores, beside its events and its log.
use Rattle.std.specs.Prelude.{◌≡◌, ℕ, ◌<◌, ◌==◌, ◌||◌, List, Option, Some, None, length, reverse, slice_get, if◌then◌else◌}
use Rattle.task_codes.specs.declared.task_ref.TaskRef.{TaskRef}
use Rattle.plant.specs.PlantValue.{PlantValue, codes_at, IsSoundPlant}
use Rattle.evaluation.specs.Meaning.{Evaluated}
use Rattle.evaluation.specs.Last.{left_by}
use Rattle.exchange_core.specs.Held.{known, IsShaped}
use Rattle.exchange_core.specs.CoreValue.{CoreValue, kept_at}
use Rattle.world.specs.declared.event.Event.{Event}
use Rattle.world.specs.History.{Setting, Openings, setting_over, opening_of, history_of, incarnation_of, heard_by}
use Rattle.world.specs.Run.{IsRun, latest, last_of}
use Rattle.world.specs.World.{node_takes}

-- what a core keeps of a task after a history: the latest, of a task of its own resource and of one from which it takes
abbrev pub kept_of : Setting → ℕ → List Event → List Evaluated → TaskRef → Option Evaluated
kept_of s n history log p = if p.resource == n || node_takes s.plant n p then latest s n history p log else None

-- a core is where the history leaves it
pub record IsNode (s : Setting) (history : List Event) (log : List Evaluated) (n : ℕ) (core : CoreValue) : Type 0 where
  pub plant : core.plant ≡ s.plant
  pub resource : core.resource ≡ n
  pub firsts : core.first ≡ s.first
  pub incarnation : core.incarnation ≡ incarnation_of s n history
  pub heard : core.heard ≡ heard_by s n history
  pub max_number : core.max_number ≡ s.max_number
  pub shaped : IsShaped core.plant core.table
  pub keeps : (p : TaskRef) → known core.table p ≡ kept_of s n history log p
  -- what a restart now would leave of each of its tasks is what the task's last evaluation of all left, or its opening
  pub long : length core.kept ≡ length (codes_at s.plant n)
  pub left : (t : TaskRef) → t.resource ≡ n → t.task < length core.kept
      → left_by (kept_at core t.task) (known core.table t) ≡ left_by (opening_of s t) (last_of t log)

-- the parts of a world are what its events make them
pub record IsWorld (s : Setting) (events : List Event) (log : List Evaluated) (cores : List CoreValue) : Type 0 where
  pub planned : IsSoundPlant s.plant
  pub logged : IsRun s events log
  pub firsts : length s.first ≡ length s.plant.resources
  pub sized : length cores ≡ length s.plant.resources
  pub nodes : (n : ℕ) (core : CoreValue) → slice_get cores n ≡ Some core
      → IsNode s (history_of s events) (reverse log) n core

-- so of a world over this plant, these first incarnations, these openings and this greatest number
abbrev pub IsWorldOf : PlantValue → List ℕ → Openings → ℕ → List Event → List Evaluated → List CoreValue → Type 0
IsWorldOf plant first opening max_number events log cores =
    IsWorld (setting_over plant first opening max_number) events log cores
