-- What a node is, and how it starts.
use Rattle.std.specs.Prelude.{◌≡◌, ℕ, ◌+◌, ◌<◌, ◌≤◌, List, Some, length, replicate}
use Rattle.std_blocks.specs.declared.value.Value.{Value}
use Rattle.plant.specs.PlantValue.{PlantValue, code_at, codes_at}
use Rattle.evaluation.specs.Meaning.{Evaluated}
use Rattle.exchange_core.specs.HeldMessages.{IsShaped}
use Rattle.exchange_core.specs.MessageCoreValue.{MessageCoreValue, fresh_core, own_last, own_task, IsRestartOf}

-- A node: its core, how many lines it has done since it started, and how many evaluations it made of them.
pub record NodeValue : Type 0 where
  pub core : MessageCoreValue
  pub lines : ℕ
  pub made : ℕ

-- the node of these parts
abbrev pub node_of : MessageCoreValue → ℕ → ℕ → NodeValue
node_of core lines made = record { core = core; lines = lines; made = made }

-- a resource in incarnation 0, in which nothing is evaluated: all resources are, and its tasks open with these values
abbrev pub core_at_0 : PlantValue → ℕ → List (List Value) → MessageCoreValue
core_at_0 plant n opening = fresh_core plant n (replicate (length plant.resources) 0) 0 opening 4294967295

-- A node starts: its core is that in incarnation 0 behind a restart in this one, and it has done nothing.
pub record IsStarted (plant : PlantValue) (n : ℕ) (opening : List (List Value)) (incarnation : ℕ) (s : NodeValue)
    : Type 0 where
  pub risen : IsRestartOf (core_at_0 plant n opening) s.core incarnation
  pub no_lines : s.lines ≡ 0
  pub none_made : s.made ≡ 0

-- the last evaluation of each of a core's tasks is by the task's code
abbrev pub AreLastsOwn : MessageCoreValue → Type 0
AreLastsOwn core =
    (task : ℕ) (x : Evaluated) → own_last core task ≡ Some x → code_at core.plant (own_task core task) ≡ Some x.code

-- the parts of a node suit each other
pub record IsNodeOf (plant : PlantValue) (n : ℕ) (s : NodeValue) : Type 0 where
  pub plant_is : s.core.plant ≡ plant
  pub resource_is : s.core.resource ≡ n
  pub exists : n < length plant.resources
  pub firsts : length s.core.first ≡ length plant.resources
  pub heards : length s.core.heard ≡ length plant.resources
  pub shaped : IsShaped plant s.core.table
  pub kept_each : length s.core.kept ≡ length (codes_at plant n)
  pub lasts : AreLastsOwn s.core
  pub fewer : s.made ≤ s.lines

-- one more line was done, and of it so many evaluations were made
pub record HasCounted (old new : NodeValue) (made : ℕ) : Type 0 where
  pub lines_are : new.lines ≡ old.lines + 1
  pub made_are : new.made ≡ old.made + made
