use Rattle.std.proofs.Common.{◌≡◌, take, map}
use Rattle.declared_names.specs.declared.declarations.Declaration.{Declaration}
use Rattle.scan_steps.specs.First.{slot_first}
use Rattle.scan_steps.specs.Steps.Seats.{IsSeating, slots_from}
use Rattle.scan_steps.proofs.slots.Slots.initial.Given as goal

abbrev pub invariant-loop-place : goal.invariant-loop-place
invariant-loop-place l = record {
  seating : IsSeating l.seats.items l.lists;
  slots : slots_from 0 l.seats.items l.lists ≡ map (λ (e : Declaration). slot_first e.declared) (take l.place l.declarations);
}
