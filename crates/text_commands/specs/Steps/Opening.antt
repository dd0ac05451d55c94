-- What happens before a scan.
use Rattle.std.specs.Prelude.{◌≡◌, ℕ}
use Rattle.power_flow.specs.LadderValue.{Fits, LadderValue}
use Rattle.power_flow.specs.StateValue.{StateValue}
use Rattle.text_commands.specs.Restarts.{GivenValue, opened_memories, opened_slots}
use Rattle.text_commands.specs.Series.{set_before}

-- the state before scan k, counted from 0, that comes of the one behind the scan before it
pub record IsOpened (l : LadderValue) (given : GivenValue) (k : ℕ) (old new : StateValue) : Type 0 where
  pub slots : new.slots ≡ set_before given.rows k (opened_slots l.declarations given k old.slots)
  pub memories : new.memories ≡ opened_memories l.networks given k old.memories
  pub fits : Fits l new
