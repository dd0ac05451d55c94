-- What a resource is while it runs: its core, and the journal that has come to where the core stands.
use Rattle.std.specs.Prelude.{◌≡◌, ℕ, Bool, List, slice_index}
use Rattle.std_blocks.specs.declared.value.Value.{Value}
use Rattle.plant.specs.PlantValue.{PlantValue}
use Rattle.evaluation.specs.declared.field_input.FieldInput.{FieldInput}
use Rattle.evaluation.specs.Meaning.{Evaluated}
use Rattle.exchange_core.specs.declared.accepted.Accepted.{Accepted}
use Rattle.exchange_core.specs.CoreValue.{CoreValue, fresh_core, IsRestartOf, IsAccepted, HasHeard, IsNext}
use Rattle.node_reports.specs.declared.step.Step.TheVariants.{Took, Made, Restarted, Heard}
use Rattle.node_reports.specs.declared.journal.Journal.{Journal}
use Rattle.node_reports.specs.Journals.{fresh_journal, with_step}

-- a resource that runs: its core and its journal
pub record StationValue : Type 0 where
  pub core : CoreValue
  pub journal : Journal

-- a resource that has made an evaluation and hasn't noted it yet
pub record PendingValue : Type 0 where
  pub core : CoreValue
  pub journal : Journal
  pub made : Evaluated

-- a resource in its first incarnation: nothing is held, the tasks begin with this opening, and the journal has no steps
abbrev pub fresh_station : PlantValue → ℕ → List ℕ → List (List Value) → ℕ → StationValue
fresh_station plant resource firsts opening max_number =
    record {
      core = fresh_core plant resource firsts (slice_index firsts resource) opening max_number;
      journal = fresh_journal resource (slice_index firsts resource) opening;
    }

-- x was received: the journal has it as its last step, and the core has answered
pub record IsReceived (old new : StationValue) (x : Evaluated) (answer : Accepted) : Type 0 where
  pub accepted : IsAccepted old.core new.core x answer
  pub noted : new.journal ≡ with_step old.journal (Took x)

-- it was heard that a resource is in an incarnation: the journal has it as its last step, and the core has answered
pub record IsTold (old new : StationValue) (of heard : ℕ) (answer : Bool) : Type 0 where
  pub heard_is : HasHeard old.core new.core of heard answer
  pub noted : new.journal ≡ with_step old.journal (Heard of heard)

-- the core has made its next evaluation, and the journal is as it was
pub record IsPending (old : StationValue) (new : PendingValue) (ticket task dt : ℕ) (inputs : List FieldInput)
    : Type 0 where
  pub next : IsNext old.core new.core ticket task dt inputs new.made
  pub journal : new.journal ≡ old.journal

-- the evaluation made is the journal's last step
pub record IsNoted (old : PendingValue) (new : StationValue) : Type 0 where
  pub core : new.core ≡ old.core
  pub noted : new.journal ≡ with_step old.journal (Made old.made)

-- the core is that of the greater incarnation, which the journal has as its last step
pub record IsRestarted (old new : StationValue) (ticket incarnation : ℕ) : Type 0 where
  pub core : IsRestartOf old.core new.core incarnation
  pub noted : new.journal ≡ with_step old.journal (Restarted ticket incarnation)
