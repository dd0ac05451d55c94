-- What this keeper may answer, one may that was raised to the incarnation.
use Rattle.std.proofs.Common.{◌≡◌, Result, inl, inr, ℕ, List, Option, Some, None}
use Rattle.plant.specs.PlantValue.{PlantValue}
use Rattle.evaluation.specs.declared.field_input.FieldInput.{FieldInput}
use Rattle.keepers.specs.declared.keeper_fault.KeeperFault.{KeeperFault}
use Rattle.live_node.specs.declared.node_stop.NodeStop.{NodeStop}
use Rattle.live_node.specs.NodeValue.{NodeValue}
use Rattle.live_node.specs.NodeAnswers.{keeper_gives, a_keeper_gives}
use Rattle.live_node.specs.Steps.ByOne.{answered_by_one, unanswered_by_one}
use Rattle.cycle.specs.declared.asked.Asked.{Asked}
use Rattle.cycle.specs.declared.origin.Verdict.{Verdict}
use Rattle.cycle.specs.declared.origin.Verdict.TheVariants.{Answer, Tell, Refuse}
use Rattle.cycle.specs.Cycle.{CycleValue}
use Rattle.field_node.specs.FieldAnswers.{Answering, IsAnsweredFrom, IsDone, IsUnanswered, IsUndone, StopsAsked}

-- a line that is answered
pub from_by_one : {K : Type 0} (last : K → ℕ) (gives : K → Result ℕ KeeperFault → Type 0) (keeper : K) (verdict : Verdict) (line : List ℕ) (a : Answering) → last keeper ≡ a.old.core.incarnation
    → IsAnsweredFrom (keeper_gives gives keeper) verdict line a → IsAnsweredFrom (a_keeper_gives last gives) verdict line a
from_by_one last gives keeper Answer line a held h = (answered_by_one last gives keeper a.old a.new line a.noted_old a.noted_new a.from a.to held h.0, h.1)
from_by_one last gives keeper Tell line a held h = h
from_by_one last gives keeper (Refuse refusal) line a held h = h

-- a line that isn't
pub unanswered_from_one : {K : Type 0} (last : K → ℕ) (gives : K → Result ℕ KeeperFault → Type 0) (keeper : K) (verdict : Verdict) (s : NodeValue) (line : List ℕ) (why : NodeStop) (old new : Option (List ℕ)) → last keeper ≡ s.core.incarnation
    → IsUnanswered (keeper_gives gives keeper) verdict s line why old new → IsUnanswered (a_keeper_gives last gives) verdict s line why old new
unanswered_from_one last gives keeper Answer s line why old new held h = unanswered_by_one last gives keeper s line why old new held h
unanswered_from_one last gives keeper Tell s line why old new held h = h
unanswered_from_one last gives keeper (Refuse refusal) s line why old new held h = h

-- what a cycle asks for
pub done_by_one : {K : Type 0} (last : K → ℕ) (gives : K → Result ℕ KeeperFault → Type 0) (keeper : K) (plant : PlantValue) (resource : ℕ) (asked : Option Asked) (a : Answering) → last keeper ≡ a.old.core.incarnation
    → IsDone (keeper_gives gives keeper) plant resource asked a → IsDone (a_keeper_gives last gives) plant resource asked a
done_by_one last gives keeper plant resource None a held h = h
done_by_one last gives keeper plant resource (Some asked) a held h = answered_by_one last gives keeper a.old a.new _ a.noted_old a.noted_new _ a.to held h

undone_by_one : {K : Type 0} (last : K → ℕ) (gives : K → Result ℕ KeeperFault → Type 0) (keeper : K) (plant : PlantValue) (resource : ℕ) (asked : Option Asked) (field : List FieldInput) (s : NodeValue) (why : NodeStop) (old new : Option (List ℕ)) → last keeper ≡ s.core.incarnation
    → IsUndone (keeper_gives gives keeper) plant resource asked field s why old new → IsUndone (a_keeper_gives last gives) plant resource asked field s why old new
undone_by_one last gives keeper plant resource None field s why old new held h = h
undone_by_one last gives keeper plant resource (Some asked) field s why old new held (inl h) = inl h
undone_by_one last gives keeper plant resource (Some asked) field s why old new held (inr h) = inr (unanswered_by_one last gives keeper s _ why old new held h)

-- what it asks for and isn't done
pub stops_by_one : {K : Type 0} (last : K → ℕ) (gives : K → Result ℕ KeeperFault → Type 0) (keeper : K) (plant : PlantValue) (resource : ℕ) (c d : Option CycleValue) (reading : ℕ) (field : List FieldInput) (s : NodeValue) (why : NodeStop) (old new : Option (List ℕ)) → last keeper ≡ s.core.incarnation
    → StopsAsked (keeper_gives gives keeper) plant resource c d reading field s why old new → StopsAsked (a_keeper_gives last gives) plant resource c d reading field s why old new
stops_by_one last gives keeper plant resource c d reading field s why old new held h = record {
  asked = h.asked;
  asks = h.asks;
  undone = undone_by_one last gives keeper plant resource h.asked field s why old new held h.undone;
}
