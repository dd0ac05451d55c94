-- When the tasks of one more resource are due.
use Rattle.std.proofs.Common.{◌≡◌, ℕ, ◌+◌, ◌<◌, List, [], ◌∷◌, ◌++◌, length, map, take, get_or, All, Option, Some, sym, ap, subst, ◌∙◌}
use Rattle.std.specs.Prelude.{slice_get}
use Rattle.std.specs.Global.{Vec}
use Rattle.std.specs.Option.{option_map}
use Rattle.std.proofs.lemmas.List.{length-map, map-append, take_more}
use Rattle.std.proofs.lemmas.List.Elements.{All-push}
use Rattle.std.proofs.lemmas.Option.{slice_get-map, get_or_from_slice_get}
use Rattle.task_codes.specs.declared.timing.Timing.{Timing}
use Rattle.task_codes.specs.Plan.{AllTimed, timings_in}
use Rattle.lists.specs.Items.{items_or_none}
use Rattle.plant.specs.PlantValue.{ResourceValue, PlantValue, tasks_at}
use Rattle.plant.specs.Plan.{timing_of, timings_of}
use Rattle.lists.proofs.Places.{element_at}

pushed : (vs : List (Vec Timing)) (v : Vec Timing) → timings_in (vs ++ v ∷ []) ≡ timings_in vs ++ v.items ∷ []
pushed vs v = map-append (λ (x : Vec Timing). x.items) vs (v ∷ [])

pub timings_more : (plant : PlantValue) (n : ℕ) (vs : List (Vec Timing)) (v : Vec Timing) → n < length plant.resources
    → v.items ≡ map timing_of (tasks_at plant n) → timings_in vs ≡ take n (timings_of plant) → timings_in (vs ++ v ∷ []) ≡ take (n + 1) (timings_of plant)
timings_more plant n vs v lt is so_far =
    let found = element_at plant.resources n lt in
    let f : ResourceValue → List Timing = λ r. map timing_of r.tasks in
    let there : slice_get (timings_of plant) n ≡ Some (f found.0) = slice_get-map f plant.resources n ∙ ap (λ o. option_map f o) found.1 in
    let same : v.items ≡ f found.0 = is ∙ ap (λ (o : Option ResourceValue). map timing_of (items_or_none (option_map (λ (r : ResourceValue). r.tasks) o))) found.1 in
    let here : get_or (timings_of plant) n v.items ≡ v.items = get_or_from_slice_get (timings_of plant) n (f found.0) v.items there ∙ sym same in
    pushed vs v ∙ ap (λ ts. ts ++ v.items ∷ []) so_far ∙ ap (λ (t : List Timing). take n (timings_of plant) ++ t ∷ []) (sym here) ∙ sym (take_more (timings_of plant) n v.items (simp length-map lt))

pub timed_more : (vs : List (Vec Timing)) (v : Vec Timing) → All AllTimed (timings_in vs) → AllTimed v.items → All AllTimed (timings_in (vs ++ v ∷ []))
timed_more vs v timed one = subst (All AllTimed) (sym (pushed vs v)) (All-push AllTimed (timings_in vs) v.items timed one)
