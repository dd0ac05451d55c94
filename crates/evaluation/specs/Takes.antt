-- What a task takes from its producers.
use Rattle.std.specs.Prelude.{◌≡◌, ℕ, List, Some, None, length, map, slice_get}
use Rattle.std_blocks.specs.declared.value.Value.{Value}
use Rattle.declared_names.specs.declared.declarations.Kind.{Kind}
use Rattle.declared_names.specs.Kinds.{value_first}
use Rattle.declared_names.specs.Kinds.{kind_of}
use Rattle.task_codes.specs.declared.task_ref.TaskRef.{TaskRef}
use Rattle.task_codes.specs.CodeValue.{CodeValue, expected_at}
use Rattle.evaluation.specs.declared.take.Take.{Take}

-- an image before the first evaluation: FALSE, 0 and T#0ms
abbrev pub initial_image : List Kind → List Value
initial_image kinds = map value_first kinds

-- a take from a producer: values of the kinds expected, and from no evaluation the initial image
pub record IsTakeOf (p : TaskRef) (kinds : List Kind) (t : Take) : Type 0 where
  pub producer_is : t.producer ≡ p
  pub kinds_are : map kind_of t.image ≡ kinds
  pub initial : t.from ≡ None → t.image ≡ initial_image kinds

-- one take for each producer, in order
pub record AreTakesOf (c : CodeValue) (takes : List Take) : Type 0 where
  pub many : length takes ≡ length c.producers
  pub each : (k : ℕ) (t : Take) (p : TaskRef) → slice_get takes k ≡ Some t → slice_get c.producers k ≡ Some p
      → IsTakeOf p (expected_at c k) t
