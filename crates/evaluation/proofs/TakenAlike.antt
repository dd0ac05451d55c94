-- A task takes the same of last evaluations as of their messages.
use Rattle.std.proofs.Common.{◌≡◌, List, [], ◌∷◌, map, Option, Some, None, refl}
use Rattle.std.specs.List.{zip}
use Rattle.std.specs.Option.{option_map}
use Rattle.declared_names.specs.declared.declarations.Kind.{Kind}
use Rattle.task_codes.specs.declared.task_ref.TaskRef.{TaskRef}
use Rattle.evaluation.specs.Meaning.{Evaluated}
use Rattle.evaluation.specs.Last.{take_of}
use Rattle.evaluation.specs.Messages.{message_of, take_from, TakenAlike}

take_alike : (p : TaskRef) (kinds : List Kind) (last : Option Evaluated) → take_of p kinds last ≡ take_from p kinds (option_map message_of last)
take_alike p kinds None = refl
take_alike p kinds (Some x) = refl

pub taken_alike : TakenAlike
taken_alike last code = by (zip code.producers code.expected) where
  by : (es : List (TaskRef × List Kind)) → map (λ e. take_of e.0 e.1 (last e.0)) es ≡ map (λ e. take_from e.0 e.1 (option_map message_of (last e.0))) es
  by [] = refl
  by (e ∷ es) = rw (take_alike e.0 e.1 (last e.0), by es) refl
