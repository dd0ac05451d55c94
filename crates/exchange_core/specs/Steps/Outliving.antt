-- What outlives a restart, task by task.
use Rattle.std.specs.Prelude.{◌≡◌, ◌<◌, ℕ, List, [], length, slice_index_or}
use Rattle.std_blocks.specs.declared.value.Value.{Value}
use Rattle.evaluation.specs.Last.{left_by}
use Rattle.exchange_core.specs.MessageCoreValue.{MessageCoreValue, kept_at, own_last}

-- these outlive a restart of the core's tasks
pub record AreLeft (core : MessageCoreValue) (kept : List (List Value)) : Type 0 where
  pub long : length kept ≡ length core.kept
  pub each : (task : ℕ) → task < length core.kept
      → slice_index_or kept task [] ≡ left_by (kept_at core task) (own_last core task)
