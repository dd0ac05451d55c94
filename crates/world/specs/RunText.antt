-- The text of a run: a line for each event, refused ones too.
use Rattle.std.specs.Prelude.{◌≡◌, ◌≢◌, ℕ, ◌+◌, ◌++◌, ◌⊎◌, Bool, true, false, List, [], ◌∷◌, Some, length, take, slice_get, codes}
use Rattle.std.specs.List.{flat_map}
use Rattle.std.specs.Fmt.{decimal}
use Rattle.plant.specs.PlantValue.{PlantValue}
use Rattle.evaluation.specs.Meaning.{Evaluated}
use Rattle.exchange_core.specs.declared.accepted.Accepted.{Accepted}
use Rattle.exchange_core.specs.declared.accepted.Accepted.TheVariants.{Taken, Old, Unused, Stray}
use Rattle.world.specs.declared.event.Event.{Event}
use Rattle.world.specs.declared.event.Event.TheVariants.{Evaluate, Deliver, Restart, Hear}
use Rattle.world.specs.declared.world_fault.WorldFault.{WorldFault}
use Rattle.world.specs.declared.world_fault.WorldFault.TheVariants.{NoSuchResource, NoSuchTask, NoSuchMessage, NumbersSpent, IncarnationsSpent, Memory, NeverHeld}
use Rattle.world.specs.History.{Setting, history_of, is_lawful, incarnation_of}
use Rattle.world.specs.Run.{IsRun}
use Rattle.world.specs.World.{WorldValue}
use Rattle.world.specs.Step.{IsCause, IsDelivered, is_newer}
use Rattle.text_lines.specs.LineParts.{resource_text}
use Rattle.world.specs.RunLines.{evaluation_line}

-- what a resource answers to a message
abbrev pub accepted_text : Accepted → List ℕ
accepted_text Taken = codes "taken"
accepted_text Old = codes "old"
accepted_text Unused = codes "unused"
accepted_text Stray = codes "stray"

-- why an event is refused
abbrev pub refusal_text : WorldFault → List ℕ
refusal_text NoSuchResource = codes "NoSuchResource"
refusal_text NoSuchTask = codes "NoSuchTask"
refusal_text NoSuchMessage = codes "NoSuchMessage"
refusal_text NumbersSpent = codes "NumbersSpent"
refusal_text IncarnationsSpent = codes "IncarnationsSpent"
refusal_text Memory = codes "Memory"
refusal_text NeverHeld = codes "NeverHeld"

-- `DELIVER m R taken`
abbrev pub delivery_line : PlantValue → ℕ → ℕ → Accepted → List ℕ
delivery_line plant message n a =
    codes "DELIVER " ++ decimal message ++ codes " " ++ resource_text plant n ++ codes " "
    ++ accepted_text a ++ codes "\n"

-- `RESTART R i`
abbrev pub restart_line : PlantValue → ℕ → ℕ → List ℕ
restart_line plant n incarnation =
    codes "RESTART " ++ resource_text plant n ++ codes " " ++ decimal incarnation ++ codes "\n"

-- whether what was heard is newer than what was heard before
abbrev pub hearing_text : Bool → List ℕ
hearing_text true = codes "new"
hearing_text false = codes "old"

-- `HEAR R S i new`
abbrev pub hear_line : PlantValue → ℕ → ℕ → ℕ → Bool → List ℕ
hear_line plant n m incarnation newer =
    codes "HEAR " ++ resource_text plant n ++ codes " " ++ resource_text plant m ++ codes " "
    ++ decimal incarnation ++ codes " " ++ hearing_text newer ++ codes "\n"

-- `REFUSED e Kind`
abbrev pub refused_line : ℕ → WorldFault → List ℕ
refused_line number cause = codes "REFUSED " ++ decimal number ++ codes " " ++ refusal_text cause ++ codes "\n"

-- The line of a lawful event after other events: for an Evaluate that of the evaluation which it adds to their run,
-- with its place there; for a Deliver what the resource answers; for a Restart the incarnation that the resource then
-- has; for a Hear whether the incarnation is newer than the one of which the resource had heard.
abbrev pub IsDoneLine : WorldValue → Event → List ℕ → Type 0
IsDoneLine w (Evaluate ticket task dt inputs) line =
    (x : Evaluated) × IsRun w.setting (w.events ++ Evaluate ticket task dt inputs ∷ []) (w.log ++ x ∷ [])
    × (line ≡ evaluation_line w.setting.plant (length w.log + 1) x)
IsDoneLine w (Deliver k n) line = (a : Accepted) × IsDelivered w k n a × (line ≡ delivery_line w.setting.plant k n a)
IsDoneLine w (Restart n) line =
    line
    ≡ restart_line w.setting.plant n (incarnation_of w.setting n (history_of w.setting (w.events ++ Restart n ∷ [])))
IsDoneLine w (Hear n m incarnation) line =
    line ≡ hear_line w.setting.plant n m incarnation (is_newer w n m incarnation)

-- the line of an event that is refused tells its number, and the first cause
abbrev pub IsRefusedLine : WorldValue → ℕ → Event → List ℕ → Type 0
IsRefusedLine w number e line =
    (cause : WorldFault) × IsCause w e cause × (cause ≢ Memory) × (line ≡ refused_line number cause)

-- the line of an event after other events, by whether it is lawful there
abbrev pub TellsEvent : WorldValue → ℕ → Event → List ℕ → Type 0
TellsEvent w number e line =
    ((is_lawful w.setting (history_of w.setting w.events) e ≡ true) × IsDoneLine w e line)
    ⊎ ((is_lawful w.setting (history_of w.setting w.events) e ≡ false) × IsRefusedLine w number e line)

-- the line of an event after the events before it, whose run this log is
pub record IsLineAfter (s : Setting) (before : List Event) (e : Event) (line : List ℕ) : Type 0 where
  pub log : List Evaluated
  pub run : IsRun s before log
  pub tells : TellsEvent (record { setting = s; events = before; log = log }) (length before + 1) e line

-- The text of the run of these events: one line for each event, each after those before it.
pub record IsRunText (s : Setting) (events : List Event) (text : List ℕ) : Type 0 where
  pub lines : List (List ℕ)
  pub many : length lines ≡ length events
  pub each : (k : ℕ) (e : Event) (line : List ℕ) → slice_get events k ≡ Some e → slice_get lines k ≡ Some line
      → IsLineAfter s (take k events) e line
  pub text_is : text ≡ flat_map (λ line. line) lines
