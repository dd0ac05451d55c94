-- What holds for every list of events.
use Rattle.std.specs.Prelude.{◌≡◌, ◌≢◌, ℕ, ◌<◌, true, List, ◌∷◌, reverse, Bool, ◌&&◌, Option, Some, None, slice_get, if◌then◌else◌}
use Rattle.task_codes.specs.declared.task_ref.TaskRef.{TaskRef}
use Rattle.evaluation.specs.Names.{precedes}
use Rattle.evaluation.specs.Meaning.{Evaluated}
use Rattle.evaluation.specs.Heard.{is_addressed}
use Rattle.evaluation.specs.Last.{same_task}
use Rattle.world.specs.declared.event.Event.{Event}
use Rattle.world.specs.declared.event.Event.TheVariants.{Deliver}
use Rattle.world.specs.History.{Setting, incarnation_of, history_of}
use Rattle.world.specs.Run.{IsRun, latest, message}

-- a list of events has one run
abbrev pub OneRun : Type 0
OneRun =
    (s : Setting) (events : List Event) (log log2 : List Evaluated) → IsRun s events log → IsRun s events log2
    → log ≡ log2

-- of two evaluations of one task in a run, the pair of the later one is greater
abbrev pub PairsRise : Type 0
PairsRise =
    (s : Setting) (events : List Event) (log : List Evaluated) (j k : ℕ) (x y : Evaluated) → IsRun s events log
    → slice_get log j ≡ Some x → slice_get log k ≡ Some y
    → x.name.task ≡ y.name.task → j < k → precedes x.name y.name ≡ true

-- the greater of what is held and a new one
abbrev pub greater : Option Evaluated → Evaluated → Option Evaluated
greater None x = Some x
greater (Some y) x = if precedes y.name x.name then Some x else Some y

-- what is held of p after a message came, where this says which messages count
abbrev pub held_with : TaskRef → (Evaluated → Bool) → Option Evaluated → Option Evaluated → Option Evaluated
held_with p counts held None = held
held_with p counts held (Some x) = if same_task x.name.task p && counts x then greater held x else held

-- after any events, a delivery to another resource than p's changes the latest of p there
-- to the greater of it and the message, if that is addressed to the resource's present incarnation
abbrev pub KeptIsLatest : Type 0
KeptIsLatest =
    (s : Setting) (events : List Event) (log : List Evaluated) (n k : ℕ) (p : TaskRef) → IsRun s events log
    → p.resource ≢ n
    → latest s n (Deliver k n ∷ history_of s events) p (reverse log)
    ≡ held_with p (λ x. is_addressed x n (incarnation_of s n (history_of s events)))
    (latest s n (history_of s events) p (reverse log)) (message (reverse log) k)
