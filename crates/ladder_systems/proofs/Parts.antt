-- What a moment is made of.
use Rattle.std.proofs.Common.{◌≡◌, List, Bool, ap, ◌∙◌}
use Rattle.scan_steps.specs.declared.slot.Slot.{Slot}
use Rattle.power_flow.specs.Meaning.{moment}

-- the same slots and memories make the same moment
pub moment_same : (a b : List Slot) (c d : List Bool) → a ≡ b → c ≡ d → moment a c ≡ moment b d
moment_same a b c d one two = ap (λ s. moment s c) one ∙ ap (moment b) two
