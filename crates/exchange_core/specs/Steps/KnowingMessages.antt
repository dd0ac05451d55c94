-- Where the last evaluations stand, and what they have to be for a task to go on from them.
use Rattle.std.specs.Prelude.{◌≡◌, ◌≢◌, ◌<◌, ℕ, List, [], Option, Some, None, length, slice_get, slice_index_or}
use Rattle.declared_names.specs.declared.declarations.Kind.{Kind}
use Rattle.task_codes.specs.declared.task_ref.TaskRef.{TaskRef}
use Rattle.task_codes.specs.CodeValue.{CodeValue, expected_at}
use Rattle.evaluation.specs.Meaning.{Evaluated}
use Rattle.exchange_core.specs.declared.last.Last.{Last}
use Rattle.exchange_core.specs.HeldMessages.{message_in, known}
use Rattle.exchange_core.specs.MessageCoreValue.{MessageCoreValue}

-- the table has a place for this task
abbrev pub has_place : {X : Type 0} → List (List (Option X)) → TaskRef → Type 0
has_place table p = (p.resource < length table) × (p.task < length (slice_index_or table p.resource []))

-- the last evaluation of a task, if there is one, was one of this code
abbrev pub FitsLast : CodeValue → Option Evaluated → Type 0
FitsLast code None = Unit {0}
FitsLast code (Some x) = x.code ≡ code

-- this is what is known of its task, which is another resource's
pub record Holds (core : MessageCoreValue) (last : Last) : Type 0 where
  pub another : (message_in last).name.task.resource ≢ core.resource
  pub known_is : known core.table (message_in last).name.task ≡ Some last

-- a code takes from p, and expects an image of these kinds of it
pub record ExpectsOf (code : CodeValue) (p : TaskRef) (kinds : List Kind) : Type 0 where
  pub place : ℕ
  pub producer_is : slice_get code.producers place ≡ Some p
  pub kinds_are : expected_at code place ≡ kinds
