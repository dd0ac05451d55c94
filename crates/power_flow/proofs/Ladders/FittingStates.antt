-- States that fit one ladder differ in values, blocks and memories alone.
use Rattle.std.proofs.Common.{◌≡◌, sym, ap, ◌∙◌}
use Rattle.power_flow.specs.LadderValue.{LadderValue, Fits, holding}
use Rattle.power_flow.specs.StateValue.{StateValue, IsSame}

-- a state that fits is made of what it holds
pub holds : (l : LadderValue) (s : StateValue) → Fits l s → s ≡ holding l s.slots s.memories
holds l s fits =
    ap (λ x. record s { waiting_links = x }) fits.waiting_links
    ∙ ap (λ x. record s { waiting_links = l.waiting_links; waiting_results = x }) fits.waiting_results

pub fitting_states : (l : LadderValue) (s t : StateValue) → Fits l s → Fits l t → IsSame s t → s ≡ t
fitting_states l s t one other same =
    holds l s one ∙ ap (λ slots. holding l slots s.memories) same.slots ∙ ap (λ memories. holding l t.slots memories) same.memories ∙ sym (holds l t other)
