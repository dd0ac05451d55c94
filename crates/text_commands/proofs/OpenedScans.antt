-- What happens before a scan, one thing behind the other.
use Rattle.std.proofs.Common.{◌≡◌, ℕ, List, ap, ap₂, ◌∙◌}
use Rattle.declared_names.specs.declared.declarations.Declaration.{Declaration}
use Rattle.scan_steps.specs.Slots.{AreSlotsOf}
use Rattle.power_flow.specs.LadderValue.{Fits, LadderValue}
use Rattle.power_flow.specs.StateValue.{StateValue}
use Rattle.text_commands.specs.Restarts.{GivenValue, opened_memories, opened_slots}
use Rattle.text_commands.specs.Series.{SeriesValue, set_before}
use Rattle.text_commands.specs.Steps.Opening.{IsOpened}
use Rattle.text_commands.specs.Steps.Setting.{fits_after}

-- variables are set behind a restart
pub opened_by : (l : LadderValue) (given : GivenValue) (k : ℕ) (old restarted new : StateValue) (rows : List SeriesValue) → rows ≡ given.rows → restarted.slots ≡ opened_slots l.declarations given k old.slots → restarted.memories ≡ opened_memories l.networks given k old.memories
    → Fits l restarted → new ≡ record restarted { slots = set_before rows k restarted.slots } → ((ds : List Declaration) → AreSlotsOf ds restarted.slots → AreSlotsOf ds new.slots) → IsOpened l given k old new
opened_by l given k old restarted new rows same slots memories fits is declared = record {
  slots = ap (λ (s : StateValue). s.slots) is ∙ ap₂ (λ rs ss. set_before rs k ss) same slots;
  memories = ap (λ (s : StateValue). s.memories) is ∙ memories;
  fits = fits_after l restarted new (set_before rows k restarted.slots) fits is declared;
}
