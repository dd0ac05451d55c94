-- When the entries of a book can be made again. Entries stand with the newest first, but in the book itself.
use Rattle.std.specs.Prelude.{◌≡◌, ℕ, ◌≤◌, List, [], ◌∷◌, Some, length, reverse, slice_index}
use Rattle.plant.specs.PlantValue.{PlantValue, code_at, IsSoundPlant}
use Rattle.task_codes.specs.CodeValue.{CodeValue}
use Rattle.evaluation.specs.Meaning.{Evaluated, IsMeant, IsWhole}
use Rattle.book.specs.Fits.{last_in}
use Rattle.world.specs.declared.event.Event.{Event}
use Rattle.world.specs.History.{Setting, Openings, setting_over}
use Rattle.world.specs.Run.{IsRun, state_before}

-- An entry is one that its resource could have made after those before it: the plant's code, a number within the limit,
-- incarnations that are numbers of 32 bits,
-- as the state before the one that the task's last entry in this incarnation left, else the initial one with the retained
-- variables as its last entry in any incarnation left them or as they open, takes from the code's producers with initial
-- images where nothing was taken, and what all that means.
pub record CouldBeMade (s : Setting) (older : List Evaluated) (x : Evaluated) : Type 0 where
  pub code : CodeValue
  pub found : code_at s.plant x.name.task ≡ Some code
  pub number_left : x.name.number ≤ s.max_number
  pub incarnation_left : x.name.incarnation ≤ 4294967295
  pub heard_left : (m : ℕ) → slice_index x.heard m ≤ 4294967295
  pub same_code : x.code ≡ code
  pub before : x.before ≡ state_before s code x.name.task older (last_in older x.name.task x.name.incarnation)
  pub meant : IsMeant x
  pub whole : IsWhole x

-- each entry could have been made after those before it
abbrev pub AllCouldBeMade : Setting → List Evaluated → Type 0
AllCouldBeMade s [] = Unit {0}
AllCouldBeMade s (x ∷ older) = CouldBeMade s older x × AllCouldBeMade s older

-- these events make these entries again: over every plant, openings and limit for which each entry could have been made,
-- they are the run of the events
abbrev pub Replays : List ℕ → List Evaluated → List Event → Type 0
Replays first entries events =
    (plant : PlantValue) (opening : Openings) (max_number : ℕ) → IsSoundPlant plant
    → length first ≡ length plant.resources
    → AllCouldBeMade (setting_over plant first opening max_number) (reverse entries)
    → IsRun (setting_over plant first opening max_number) events entries
