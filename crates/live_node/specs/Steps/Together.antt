-- Steps of proofs: lines that a node does one after the other, and answers together.
use Rattle.std.specs.Prelude.{◌≡◌, ℕ, ◌++◌, ◌⊎◌, Bool, true, false, List, [], ◌∷◌, Option, Some, Result, Ok, Err, reverse}
use Rattle.std.specs.List.{AllByRecursion, flat_map}
use Rattle.std.specs.Io.KnownBytes.{Appends, Consumes, Keeps}
use Rattle.text_lines.specs.Lines.{HasNoFeed}
use Rattle.live_node.specs.NodeValue.{NodeValue}
use Rattle.live_node.specs.NodeAnswers.{Raising}
use Rattle.live_node.specs.declared.live_stop.LiveStop.{LiveStop}
use Rattle.live_node.specs.declared.live_stop.LiveStop.TheVariants.{Node, Read, Write, Memory}
use Rattle.live_node.specs.LiveNode.{HaveAnswered}
use Rattle.live_node.specs.Stops.{StopsTogether, StopsWithin}
use Rattle.live_node.specs.Syncing.{Grows}
use Rattle.live_node.specs.Steps.Answering.{HasAnsweredNext}

-- these whole lines were read and answered, and what the start wrote was written before
pub record Stands (raising : Raising) (first last : NodeValue) (begun : List ℕ) (lines : List (List ℕ))
    (given left noted_old noted_new from to : Option (List ℕ)) : Type 0 where
  pub whole : AllByRecursion HasNoFeed lines
  pub read : Consumes given left (flat_map (λ line. line ++ 10 ∷ []) lines)
  pub notes : List ℕ
  pub text : List ℕ
  pub answered : HaveAnswered raising first (reverse lines) last notes text
  pub noted : Appends noted_old noted_new notes
  pub written : Appends from to (begun ++ text)

-- lines were answered, and then nothing was left, or a last one without a line feed
pub record StandsAtEnd (raising : Raising) (old new : NodeValue) (given left noted_old noted_new from to : Option (List ℕ))
    : Type 0 where
  pub lines : List (List ℕ)
  pub mid : NodeValue
  pub now : Option (List ℕ)
  pub noted : Option (List ℕ)
  pub written : Option (List ℕ)
  pub stands : Stands raising old mid [] lines given now noted_old noted from written
  pub last : HasAnsweredNext raising mid new now left noted noted_new written to false

-- lines were done, and their answers wait; then the node stopped
pub record StopsBehindDone (raising : Raising) (old : NodeValue) (given left noted_old noted_new : Option (List ℕ))
    (waiting : List ℕ) (stop : LiveStop) : Type 0 where
  pub lines : List (List ℕ)
  pub last : NodeValue
  pub now : Option (List ℕ)
  pub noted : Option (List ℕ)
  pub stands : Stands raising old last [] lines given now noted_old noted (Some []) (Some waiting)
  pub stops : StopsWithin raising last now left noted noted_new stop

-- lines were done and answered: more may follow, or nothing was left
abbrev pub HasAnsweredTogether : Raising → NodeValue → NodeValue → Option (List ℕ) → Option (List ℕ) → Option (List ℕ)
    → Option (List ℕ) → Option (List ℕ) → Option (List ℕ) → Bool → Type 0
HasAnsweredTogether raising old new given left noted_old noted_new from to true =
    (lines : List (List ℕ)) × Stands raising old new [] lines given left noted_old noted_new from to
HasAnsweredTogether raising old new given left noted_old noted_new from to false =
    StandsAtEnd raising old new given left noted_old noted_new from to

-- lines were done, and their answers wait: more may follow, or nothing was left
abbrev pub HasDone : Raising → NodeValue → NodeValue → Option (List ℕ) → Option (List ℕ) → Option (List ℕ) → Option (List ℕ)
    → List ℕ → Bool → Type 0
HasDone raising old new given left noted_old noted_new waiting more =
    HasAnsweredTogether raising old new given left noted_old noted_new (Some []) (Some waiting) more

-- lines were answered, and their notes are on the disk; then the node stopped at the next one, and all is on the disk, or at
-- those that came together
pub record StopsAtThem (raising : Raising) (old : NodeValue) (given left noted_old noted_new synced from to : Option (List ℕ))
    (stop : LiveStop) : Type 0 where
  pub lines : List (List ℕ)
  pub last : NodeValue
  pub now : Option (List ℕ)
  pub noted : Option (List ℕ)
  pub written : Option (List ℕ)
  pub stands : Stands raising old last [] lines given now noted_old noted from written
  pub synced_are : Grows noted synced
  pub stops : (StopsWithin raising last now left noted noted_new stop × Keeps written to × (synced ≡ noted_new))
      ⊎ StopsTogether raising last now left noted noted_new synced written to stop

-- the cause that is told: the node's own, else why it couldn't tell what it did, else why it can't read
abbrev pub untold_or : LiveStop → Result (Unit {0}) LiveStop → LiveStop
untold_or stop (Ok told) = stop
untold_or stop (Err untold) = untold

abbrev pub told_cause : LiveStop → Result (Unit {0}) LiveStop → LiveStop
told_cause (Node why) told = Node why
told_cause Read told = untold_or Read told
told_cause Write told = untold_or Write told
told_cause Memory told = untold_or Memory told
