-- What of an evaluation goes to other resources, and what a task takes of it.
use Rattle.std.specs.Prelude.{◌≡◌, ℕ, List, Option, Some, None, map}
use Rattle.std.specs.List.{zip}
use Rattle.std.specs.Option.{option_map}
use Rattle.std_blocks.specs.declared.value.Value.{Value}
use Rattle.declared_names.specs.declared.declarations.Kind.{Kind}
use Rattle.task_codes.specs.declared.task_ref.TaskRef.{TaskRef}
use Rattle.task_codes.specs.CodeValue.{CodeValue}
use Rattle.evaluation.specs.declared.name.Name.{Name}
use Rattle.evaluation.specs.declared.take.Take.{Take}
use Rattle.evaluation.specs.Takes.{initial_image}
use Rattle.evaluation.specs.Meaning.{Evaluated}
use Rattle.evaluation.specs.Last.{takes_of}

-- A message: an evaluation's name, of which incarnation of each resource its maker had heard, and what it gave.
pub record MessageValue : Type 0 where
  pub name : Name
  pub heard : List ℕ
  pub image : List Value

-- the message of these parts
abbrev pub message : Name → List ℕ → List Value → MessageValue
message name heard image = record { name = name; heard = heard; image = image }

-- the message of an evaluation
abbrev pub message_of : Evaluated → MessageValue
message_of x = message x.name x.heard x.outputs

-- the take from a producer of which this is the last message, or of which there is none
abbrev pub take_from : TaskRef → List Kind → Option MessageValue → Take
take_from p kinds None = record { producer = p; from = None; image = initial_image kinds }
take_from p kinds (Some m) = record { producer = p; from = Some (m.name.incarnation, m.name.number); image = m.image }

-- one take for each producer, in order, of its last message
abbrev pub taken_of : (TaskRef → Option MessageValue) → CodeValue → List Take
taken_of last code = map (λ e. take_from e.0 e.1 (last e.0)) (zip code.producers code.expected)

-- a task takes the same of last evaluations as of their messages
abbrev pub TakenAlike : Type 0
TakenAlike =
    (last : TaskRef → Option Evaluated) (code : CodeValue) → takes_of last code ≡ taken_of (λ p. option_map message_of (last p)) code
