-- Steps of proofs: what stands behind some turns of a loop.
use Rattle.std.specs.Prelude.{◌≡◌, ℕ, Bool, true, false, List, [], Option, Result, Ok, Err}
use Rattle.std.specs.Io.KnownBytes.{Appends}
use Rattle.text_lines.specs.Sending.{SendsPart}
use Rattle.live_node.specs.NodeAnswers.{Raising}
use Rattle.live_node.specs.declared.live_stop.LiveStop.TheVariants.{Node, Read, Write, Memory}
use Rattle.text_lines.specs.declared.read_fault.ReadFault.TheVariants as reading
use Rattle.cycle.specs.declared.origin.Origin.TheVariants.{Neighbours}
use Rattle.field_node.specs.declared.field_node.FieldNode.{FieldNode}
use Rattle.field_node.specs.FieldNodes.{IsSameSetting}
use Rattle.node_loop.specs.declared.ending.Ending.{Ending}
use Rattle.node_loop.specs.declared.loop_stop.LoopStop.{LoopStop}
use Rattle.node_loop.specs.declared.loop_stop.LoopStop.TheVariants.{Live, Clock}
use Rattle.node_loop.specs.declared.looping.Looked.{Looked}
use Rattle.node_loop.specs.declared.looping.Looked.TheVariants.{Over, Idle, Evaluated}
use Rattle.node_loop.specs.declared.looping.Took.{Took}
use Rattle.node_loop.specs.declared.looping.Took.TheVariants.{Nothing, Something, Last}
use Rattle.node_loop.specs.declared.looping.Turned.{Turned}
use Rattle.node_loop.specs.declared.looping.Turned.TheVariants as turned
use Rattle.node_loop.specs.declared.told.Told.TheVariants.{Unread}
use Rattle.node_loop.specs.Given.{Turn, Takes}
use Rattle.node_loop.specs.Turns.{Standing, Makes, HaveTurned, IsOver, moment_of}
use Rattle.node_loop.specs.Stops.{StopsAt, StopsBehind, Undoes}
use Rattle.node_loop.specs.Loops.{setting_of, condition_of, stands}

-- turns were made from a loop on that was going
pub record Follows {K N : Type 0} (raising : Raising) (ending : Ending) (old new : FieldNode K N) (going : Bool)
    (given_old given_new : Option (List Turn)) (noted_old noted_new from to : Option (List ℕ)) : Type 0 where
  pub same : IsSameSetting old new
  pub turns : List Turn
  pub turned : HaveTurned raising (setting_of old) ending (stands old true given_old noted_old from) turns (stands new going given_new noted_new to)

-- turns were made from a loop on that was going, to its end
pub record Ends {K N : Type 0} (raising : Raising) (ending : Ending) (old new : FieldNode K N)
    (given_old given_new : Option (List Turn)) (noted_old noted_new from to : Option (List ℕ)) : Type 0 where
  pub going : Bool
  pub given : Option (List Turn)
  pub follows : Follows raising ending old new going given_old given noted_old noted_new from to
  pub over : IsOver (moment_of ending.until) going given given_new

-- turns were made from a loop on that was going: it is going then; or it came to its end
abbrev pub HasTurned : {K N : Type 0} → Raising → Ending → FieldNode K N → FieldNode K N → Option (List Turn) → Option (List Turn)
    → Option (List ℕ) → Option (List ℕ) → Option (List ℕ) → Option (List ℕ) → Bool → Type 0
HasTurned raising ending old new given_old given_new noted_old noted_new from to true =
    Follows raising ending old new true given_old given_new noted_old noted_new from to
HasTurned raising ending old new given_old given_new noted_old noted_new from to false =
    Ends raising ending old new given_old given_new noted_old noted_new from to

-- the clock read the moment at which a loop ends
abbrev pub is_over : Looked → Bool
is_over Over = true
is_over Idle = false
is_over Evaluated = false

-- a loop that took this is going
abbrev pub goes_on : Took → Bool
goes_on Nothing = true
goes_on Something = true
goes_on Last = false

-- a loop that made this is going
abbrev pub is_going_on : Turned → Bool
is_going_on turned.Ended = false
is_going_on turned.Idle = true
is_going_on turned.Answered = true
is_going_on turned.Evaluated = true

-- a node made of a turn what is to be made of it
pub record MadeOf {K N : Type 0} (raising : Raising) (old new : FieldNode K N) (turn : Turn)
    (noted_old noted_new : Option (List ℕ)) (text : List ℕ) : Type 0 where
  pub same : IsSameSetting old new
  pub made : Makes raising (setting_of old) (condition_of old noted_old) (condition_of new noted_new) turn text

-- why a node doesn't make what is to be made of a turn
abbrev pub NotMadeOf : {K N : Type 0} → Raising → FieldNode K N → Turn → Option (List ℕ) → Option (List ℕ) → LoopStop → Type 0
NotMadeOf raising s turn noted_old noted_new (Live (Node why)) =
    Undoes raising (setting_of s) (condition_of s noted_old) turn why noted_new
NotMadeOf raising s turn noted_old noted_new (Live Read) =
    (turn ≡ Takes Neighbours (Unread reading.Read)) × (noted_new ≡ noted_old)
NotMadeOf raising s turn noted_old noted_new (Live Write) = ⊥
NotMadeOf raising s turn noted_old noted_new (Live Memory) =
    (turn ≡ Takes Neighbours (Unread reading.Memory)) × (noted_new ≡ noted_old)
NotMadeOf raising s turn noted_old noted_new Clock = ⊥

-- turns were made from a loop on that was going, and it stopped at the next one, of which nothing is written
pub record StopsMaking {K N : Type 0} (raising : Raising) (ending : Ending) (old : FieldNode K N) (given_old given_new : Option (List Turn))
    (noted_old noted_new from to : Option (List ℕ)) (stop : LoopStop) : Type 0 where
  pub turns : List Turn
  pub last : Standing
  pub turned : HaveTurned raising (setting_of old) ending (stands old true given_old noted_old from) turns last
  pub stops : StopsAt raising (setting_of old) ending last given_new noted_new stop
  pub unwritten : to ≡ last.written

-- turns were made from a loop on that was going, and it stopped
abbrev pub Stops : {K N : Type 0} → Raising → Ending → FieldNode K N → Option (List Turn) → Option (List Turn) → Option (List ℕ)
    → Option (List ℕ) → Option (List ℕ) → Option (List ℕ) → Option (List ℕ) → LoopStop → Type 0
Stops raising ending old given_old given_new noted_old noted_new synced from to stop =
    StopsBehind raising (setting_of old) ending (stands old true given_old noted_old from) given_new noted_new synced to stop

-- a text was written whole, and where it is empty nothing was
abbrev pub HandsOn : List ℕ → Option (List ℕ) → Option (List ℕ) → Type 0
HandsOn text from to = Appends from to text × (text ≡ [] → to ≡ from)

-- the cause that is told: the node's own, else why it couldn't tell what it made, else why it stopped
abbrev pub untold_or : LoopStop → Result (Unit {0}) LoopStop → LoopStop
untold_or stop (Ok told) = stop
untold_or stop (Err untold) = untold

abbrev pub told_cause : LoopStop → Result (Unit {0}) LoopStop → LoopStop
told_cause (Live (Node why)) told = Live (Node why)
told_cause (Live Read) told = untold_or (Live Read) told
told_cause (Live Write) told = untold_or (Live Write) told
told_cause (Live Memory) told = untold_or (Live Memory) told
told_cause Clock told = untold_or Clock told

-- no more than a beginning of a text was written
abbrev pub IsUnwritten : List ℕ → Option (List ℕ) → Option (List ℕ) → LoopStop → Type 0
IsUnwritten text from to stop = (stop ≡ Live Write) × SendsPart text from to
