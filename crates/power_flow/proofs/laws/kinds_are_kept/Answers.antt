use Rattle.power_flow.proofs.Boxes.KeptSlots.{meaning_keeps}
use Rattle.power_flow.proofs.laws.kinds_are_kept.Goals as goal

pub returns : goal.returns
returns c = λ ds d circuit dt old new is m fits. meaning_keeps ds d dt old new is.named m fits
