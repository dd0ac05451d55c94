-- A run of a loop with its node: what is written at the start, and then turns, one after the other.
use Rattle.std.specs.Prelude.{◌≡◌, ◌⊎◌, ℕ, Bool, true, List, Option}
use Rattle.std.specs.Io.KnownBytes.{Appends}
use Rattle.text_lines.specs.Sending.{SendsPart}
use Rattle.live_node.specs.NodeAnswers.{Raising}
use Rattle.live_node.specs.Syncing.{Grows}
use Rattle.live_node.specs.declared.live_stop.LiveStop.TheVariants.{Write}
use Rattle.field_node.specs.declared.field_node.FieldNode.{FieldNode}
use Rattle.node_loop.specs.declared.ending.Ending.{Ending}
use Rattle.node_loop.specs.declared.loop_stop.LoopStop.{LoopStop}
use Rattle.node_loop.specs.declared.loop_stop.LoopStop.TheVariants.{Live}
use Rattle.node_loop.specs.Given.{Turn}
use Rattle.node_loop.specs.Turns.{Setting, Condition, Standing, HaveTurned, IsOver, moment_of}
use Rattle.node_loop.specs.Stops.{StopsBehind}

-- what stays of a node
abbrev pub setting_of : {K N : Type 0} → FieldNode K N → Setting
setting_of node = record { plant = node.plant.value; resource = node.resource; has_field = node.has_field }

-- what a node is that noted this
abbrev pub condition_of : {K N : Type 0} → FieldNode K N → Option (List ℕ) → Condition
condition_of node noted = record { node = node.node.state; field = node.field; cycle = node.cycle; noted = noted }

-- where a loop stands with this node
abbrev pub stands : {K N : Type 0} → FieldNode K N → Bool → Option (List Turn) → Option (List ℕ) → Option (List ℕ) → Standing
stands node going given noted written =
    record { condition = condition_of node noted; going = going; given = given; written = written }

-- where a loop stands that begins its turns
abbrev pub at_first : Condition → Option (List Turn) → Option (List ℕ) → Standing
at_first condition given written = record { condition = condition; going = true; given = given; written = written }

-- A loop ran to its end: what is written at the start was written whole; behind it turns were made, one after the other; and
-- then the loop was at its end. Nothing else was given, noted or written.
pub record RunsLoop (raising : Raising) (set : Setting) (ending : Ending) (begun : List ℕ) (old new : Condition)
    (given_old given_new : Option (List Turn)) (from to : Option (List ℕ)) : Type 0 where
  pub behind_begun : Option (List ℕ)
  pub begins : Appends from behind_begun begun
  pub turns : List Turn
  pub last : Standing
  pub turned : HaveTurned raising set ending (at_first old given_old behind_begun) turns last
  pub over : IsOver (moment_of ending.until) last.going last.given given_new
  pub new_is : new ≡ last.condition
  pub to_is : to ≡ last.written

-- nothing was given or noted, and no more than a beginning of what is written at the start was written, whose note is on the disk
pub record StopsAtStart (begun : List ℕ) (old : Condition) (given_old given_new : Option (List Turn))
    (noted synced from to : Option (List ℕ)) (stop : LoopStop) : Type 0 where
  pub cause : stop ≡ Live Write
  pub ungiven : given_new ≡ given_old
  pub unnoted : noted ≡ old.noted
  pub synced_are : Grows old.noted synced
  pub sent : SendsPart begun from to

-- what is written at the start was written whole; behind it turns were made, one after the other; and then the loop stopped
pub record StopsGoing (raising : Raising) (set : Setting) (ending : Ending) (begun : List ℕ) (old : Condition)
    (given_old given_new : Option (List Turn)) (noted synced from to : Option (List ℕ)) (stop : LoopStop) : Type 0 where
  pub behind_begun : Option (List ℕ)
  pub begins : Appends from behind_begun begun
  pub stops : StopsBehind raising set ending (at_first old given_old behind_begun) given_new noted synced to stop

-- Why a loop stops, and what was given, noted and written before; what was written rests on notes that are on the disk.
abbrev pub StopsLoop : Raising → Setting → Ending → List ℕ → Condition → Option (List Turn) → Option (List Turn)
    → Option (List ℕ) → Option (List ℕ) → Option (List ℕ) → Option (List ℕ) → LoopStop → Type 0
StopsLoop raising set ending begun old given_old given_new noted synced from to stop =
    StopsAtStart begun old given_old given_new noted synced from to stop
    ⊎ StopsGoing raising set ending begun old given_old given_new noted synced from to stop
