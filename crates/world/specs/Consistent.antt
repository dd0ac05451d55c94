-- When a log is consistent. A log has the newest evaluation first; its message k is the k-th that was made.
use Rattle.std.specs.Prelude.{◌≡◌, ◌≢◌, ◌⊎◌, ℕ, ◌<◌, ◌≤◌, List, Option, Some, None, MatchOption, slice_get}
use Rattle.std.specs.Option.{option_map}
use Rattle.std_blocks.specs.declared.value.Value.{Value}
use Rattle.declared_names.specs.Kinds.{value_first}
use Rattle.task_codes.specs.declared.binding.Source.TheVariants.{Given}
use Rattle.task_codes.specs.declared.binding.Binding.{Binding}
use Rattle.task_codes.specs.declared.task_ref.TaskRef.{TaskRef}
use Rattle.plant.specs.PlantValue.{PlantValue, code_at}
use Rattle.task_codes.specs.CodeValue.{bindings_at, source_kind}
use Rattle.evaluation.specs.declared.take.Take.{Take}
use Rattle.evaluation.specs.Meaning.{Evaluated, IsMeant, IsWhole, given}
use Rattle.evaluation.specs.Last.{from_of}
use Rattle.world.specs.Run.{message}
use Rattle.std.specs.List.{AllByRecursion}
use Rattle.book.specs.Fits.{name_from}

-- An input of an evaluation that is bound to this output of task p:
-- a binding of one of the code's programs has as its source that output of a producer, which is p.
pub record IsBoundTo (x : Evaluated) (p : TaskRef) (output : ℕ) (b : Binding) : Type 0 where
  pub program : ℕ
  pub number : ℕ
  pub producer : ℕ
  pub listed : slice_get (bindings_at x.code program) number ≡ Some b
  pub source_is : b.source ≡ Given producer output
  pub producer_is : slice_get x.code.producers producer ≡ Some p

-- all inputs that are bound to task p have their values of this image
abbrev pub HaveValuesOf : Evaluated → TaskRef → List Value → Type 0
HaveValuesOf x p image =
    (output : ℕ) (b : Binding) → IsBoundTo x p output b → given x.inputs x.takes b.source ≡ slice_get image output

-- all inputs that are bound to task p have the initial value of their kind: FALSE, 0 or T#0ms
abbrev pub AreInitial : Evaluated → TaskRef → Type 0
AreInitial x p =
    (output : ℕ) (b : Binding) → IsBoundTo x p output b
    → given x.inputs x.takes b.source ≡ option_map value_first (source_kind x.code b.source)

-- the take of an evaluation from its k-th producer, p,
-- names the evaluation of p with this incarnation and number, or none
pub record IsTaken (x : Evaluated) (k : ℕ) (p : TaskRef) (from : Option (ℕ × ℕ)) : Type 0 where
  pub take : Take
  pub taken : slice_get x.takes k ≡ Some take
  pub producer_is : take.producer ≡ p
  pub from_is : take.from ≡ from

-- each take of an evaluation from task p names this one, or none
abbrev pub AreTakenFrom : Evaluated → TaskRef → Option (ℕ × ℕ) → Type 0
AreTakenFrom x p from = (k : ℕ) → slice_get x.code.producers k ≡ Some p → IsTaken x k p from

-- All that an evaluation takes from task p is of this evaluation of p:
-- each take from p names it, and all inputs bound to p have their values of its image.
-- Where it is none, no take from p names any, and all inputs bound to p are initial.
pub record TakesOnly (x : Evaluated) (p : TaskRef) (entry : Option Evaluated) : Type 0 where
  pub named : AreTakenFrom x p (from_of entry)
  pub inputs : MatchOption entry (AreInitial x p) (λ (y : Evaluated). HaveValuesOf x p y.outputs)

-- all that message j, x, takes from task p is of one evaluation of p that was made before
pub record TakesOneEntry (log : List Evaluated) (j : ℕ) (x : Evaluated) (p : TaskRef) : Type 0 where
  pub place : ℕ
  pub entry : Evaluated
  pub earlier : place < j
  pub made : message log place ≡ Some entry
  pub task_is : entry.name.task ≡ p
  pub only : TakesOnly x p (Some entry)

-- the place of a take in a log: the message that it names, and 0 for a take of nothing
abbrev pub IsPlace : List Evaluated → Take → ℕ → Type 0
IsPlace log t k =
    MatchOption t.from (k ≡ 0) (λ f. (y : Evaluated) × (message log k ≡ Some y) × (y.name ≡ name_from t.producer f))

-- of two takes from one producer, the place of the second isn't before that of the first
abbrev pub StandInOrder : List Evaluated → Take → Take → Type 0
StandInOrder log t u = t.producer ≡ u.producer → (a b : ℕ) → IsPlace log t a → IsPlace log u b → a ≤ b

-- Of two evaluations of one resource in one incarnation,
-- the later one takes nothing from a producer that stands before what the earlier one took from it.
abbrev pub NeverGoesBack : List Evaluated → Type 0
NeverGoesBack log =
    (i j : ℕ) (x y : Evaluated) → i < j → message log i ≡ Some x → message log j ≡ Some y
    → x.name.task.resource ≡ y.name.task.resource → x.name.incarnation ≡ y.name.incarnation
    → AllByRecursion (λ (t : Take). AllByRecursion (StandInOrder log t) y.takes) x.takes

-- Of two evaluations of one resource, in whatever incarnations, the later one takes from no producer, if it takes from it
-- at all, one that stands before one that the earlier took from it.
abbrev pub NeverFalls : List Evaluated → Type 0
NeverFalls log =
    (i j : ℕ) (x y : Evaluated) → i < j → message log i ≡ Some x → message log j ≡ Some y
    → x.name.task.resource ≡ y.name.task.resource
    → AllByRecursion (λ (t : Take). AllByRecursion (λ (u : Take). u.from ≢ None → StandInOrder log t u) y.takes) x.takes

-- a consistent log of a plant
pub record IsConsistent (plant : PlantValue) (log : List Evaluated) : Type 0 where
  -- for each entry and each of its producers, all inputs bound to that producer have the values of one image,
  -- that of one entry of that producer earlier in the log, or all are initial
  pub one_image : (j k : ℕ) (x : Evaluated) (p : TaskRef) → message log j ≡ Some x
      → slice_get x.code.producers k ≡ Some p → TakesOneEntry log j x p ⊎ TakesOnly x p None
  -- within one incarnation of a resource, the places taken of one producer never fall
  pub never_back : NeverGoesBack log
  -- the places of takes that aren't of nothing never fall, over all incarnations of a resource
  pub never_falls : NeverFalls log
  -- entries of equal name are equal
  pub equal_names : (i j : ℕ) (x y : Evaluated) → message log i ≡ Some x → message log j ≡ Some y
      → x.name ≡ y.name → x ≡ y
  -- the code is that of the task in the plant; the states are of that code,
  -- and there is one take for each of its producers
  pub coded : (j : ℕ) (x : Evaluated) → message log j ≡ Some x → code_at plant x.name.task ≡ Some x.code
  pub whole : (j : ℕ) (x : Evaluated) → message log j ≡ Some x → IsWhole x
  -- the outputs and the state after are what the task means
  pub meant : (j : ℕ) (x : Evaluated) → message log j ≡ Some x → IsMeant x
