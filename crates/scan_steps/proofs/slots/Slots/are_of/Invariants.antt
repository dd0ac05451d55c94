use Rattle.std.proofs.Common.{◌≡◌, ◌<◌, ℕ, Some, slice_get}
use Rattle.declared_names.specs.declared.declarations.Declaration.{Declaration}
use Rattle.scan_steps.specs.declared.slot.Slot.{Slot}
use Rattle.scan_steps.specs.Slots.{IsSlotOf}
use Rattle.scan_steps.proofs.slots.Slots.are_of.Given as goal

abbrev pub invariant-loop-place : goal.invariant-loop-place
invariant-loop-place l = (k : ℕ) (e : Declaration) (s : Slot) → k < l.place → slice_get l.declarations k ≡ Some e → slice_get l.self k ≡ Some s → IsSlotOf e.declared s
