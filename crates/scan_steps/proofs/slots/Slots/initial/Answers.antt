use Rattle.std.proofs.Common.{◌≡◌, ◌++◌, ◌∷◌, [], ℕ, ◌+◌, ◌<◌, List, None, Some, length, slice_get, map, take, ◌∙◌, ap, sym, arith}
use Rattle.std.specs.Option.{option_map}
use Rattle.std.proofs.lemmas.List.{map_push, take_more}
use Rattle.std.proofs.lemmas.Option.{get_or_from_slice_get}
use Rattle.declared_names.specs.declared.declarations.Declaration.{Declaration}
use Rattle.declared_names.specs.declared.declarations.Declared.{Declared}
use Rattle.scan_steps.specs.declared.slot.Slot.{Slot}
use Rattle.scan_steps.specs.First.{slot_first}
use Rattle.scan_steps.proofs.KeptKinds.{declared_there}
use Rattle.scan_steps.proofs.slots.Slots.initial.Goals as goal
use Rattle.scan_steps.proofs.slots.Slots.initial.Goals.{in-Some+in_ok-push_name, in_default}

step : (ds : List Declaration) (k : ℕ) (w : Declared) (done : List Slot) → k < length ds → Some w ≡ option_map (λ (d : Declaration). d.declared) (slice_get ds k)
    → done ≡ map (λ (e : Declaration). slot_first e.declared) (take k ds) → done ++ slot_first w ∷ [] ≡ map (λ (e : Declaration). slot_first e.declared) (take (k + 1) ds)
step ds k w done lt found is =
    let there = declared_there ds k (Some w) lt found in
    let e = there.0 in
    let same : w ≡ e.declared = let s = there.2 in cc in
    let more = take_more ds k e lt in
    let here = get_or_from_slice_get ds k e e there.1 in
    let pushed = map_push (λ (e : Declaration). slot_first e.declared) (take k ds) e in
    ap (λ (l : List Slot). l ++ slot_first w ∷ []) is ∙ ap (λ x. map (λ (e : Declaration). slot_first e.declared) (take k ds) ++ slot_first x ∷ []) same ∙ sym pushed
    ∙ ap (λ (d : Declaration). map (λ (e : Declaration). slot_first e.declared) (take k ds ++ d ∷ [])) (sym here)
    ∙ ap (map (λ (e : Declaration). slot_first e.declared)) (sym more)

pub loop-place-preserved : goal.loop-place-preserved
loop-place-preserved c = elim c.match-declared_at.branch [
  | in-Some+in_ok-push_name w ↦
      rw (w.seats-is, w.lists-is) record {
        seating = w.in_ok-push_name.ensures.seating;
        slots = w.in_ok-push_name.ensures.slots
            ∙ step c.args.declarations.now c.loop-place.place w.in-Some.declared _ (omega arith) w.in-Some.ensures c.loop-place.invariant.slots;
      }
  | in_default w ↦ absurd (let there = declared_there c.args.declarations.now c.loop-place.place None (omega arith) w.in_default.ensures in let none = there.2 in cc)
]
