-- What holds for every schedule.
use Rattle.std.specs.Prelude.{◌≡◌, ℕ, List}
use Rattle.plant.specs.PlantValue.{PlantValue}
use Rattle.world.specs.declared.event.Event.{Event}
use Rattle.world.specs.ScheduleText.{IsSchedule}

-- a text spells one list of events
abbrev pub OneReading : Type 0
OneReading =
    (plant : PlantValue) (text : List ℕ) (a b : List Event) → IsSchedule plant a text → IsSchedule plant b text → a ≡ b
