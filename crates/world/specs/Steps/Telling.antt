-- Steps of the proofs: what one event tells.
use Rattle.std.specs.Prelude.{◌≡◌, ℕ, ◌-◌, List, [], ◌∷◌, Option, Some, None, length, slice_get}
use Rattle.plant.specs.PlantValue.{PlantValue}
use Rattle.evaluation.specs.Meaning.{Evaluated}
use Rattle.world.specs.declared.event.Event.{Event}
use Rattle.world.specs.declared.event.Event.TheVariants.{Evaluate, Deliver, Restart, Hear}
use Rattle.world.specs.declared.done.Done.{Done}
use Rattle.world.specs.declared.done.Done.TheVariants.{Evaluated as MadeOne, Delivered, Restarted, Heard}
use Rattle.world.specs.History.{history_of, after_events}
use Rattle.world.specs.Run.{IsRun}
use Rattle.world.specs.World.{WorldValue}
use Rattle.world.specs.RunLines.{evaluation_line}
use Rattle.world.specs.RunText.{delivery_line, restart_line, hear_line, TellsEvent}

-- the line of message m, if it was found
abbrev pub made_line : PlantValue → ℕ → Option Evaluated → List ℕ
made_line plant m None = []
made_line plant m (Some x) = evaluation_line plant m x

-- the line of what an event did, where this is the log after it
abbrev pub done_line : PlantValue → List Evaluated → Event → Done → List ℕ
done_line plant log (Evaluate ticket task dt inputs) (MadeOne m) = made_line plant m (slice_get log (length log - 1))
done_line plant log (Deliver k n) (Delivered a) = delivery_line plant k n a
done_line plant log (Restart n) (Restarted incarnation) = restart_line plant n incarnation
done_line plant log (Hear n m incarnation) (Heard newer) = hear_line plant n m incarnation newer
done_line plant log e done = []

-- an event was done or refused, and this line tells it
pub record IsTold (old new : WorldValue) (number : ℕ) (e : Event) (line : List ℕ) : Type 0 where
  pub setting : new.setting ≡ old.setting
  pub history : history_of new.setting new.events
      ≡ after_events old.setting (history_of old.setting old.events) (e ∷ [])
  pub run : IsRun old.setting old.events old.log
  pub tells : TellsEvent old number e line
