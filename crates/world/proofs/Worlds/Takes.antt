-- What a core takes from its table is what the run says.
use Rattle.std.proofs.Common.{◌≡◌, ◌≢◌, ℕ, zero, suc, Bool, true, cond, List, [], ◌∷◌, map, length, Option, Some, None, refl, ap, sym, ◌∙◌, subst, eqb}
use Rattle.std.specs.List.{list_any, zip}
use Rattle.std.specs.Prelude.{slice_get}
use Rattle.std.proofs.lemmas.Bool.{or_right}
use Rattle.std.proofs.lemmas.List.Folds.{list_any_at, Any-from_list_any}
use Rattle.std.proofs.lemmas.Option.{same_Some, slice_get_within, slice_get_read, get_or_from_slice_get}
use Rattle.declared_names.specs.Kinds.{kind_of}
use Rattle.task_codes.specs.declared.task_ref.TaskRef.{TaskRef}
use Rattle.lists.specs.Items.{items_or_none}
use Rattle.plant.specs.PlantValue.{PlantValue, code_at, codes_at, IsSoundPlant}
use Rattle.task_codes.specs.CodeValue.{CodeValue, image_kinds}
use Rattle.evaluation.specs.Meaning.{Evaluated}
use Rattle.evaluation.specs.Last.{same_task, take_of, takes_of}
use Rattle.exchange_core.specs.Held.{known}
use Rattle.exchange_core.specs.CoreValue.{CoreValue, IsUsable}
use Rattle.world.specs.declared.event.Event.{Event}
use Rattle.world.specs.History.{Setting}
use Rattle.world.specs.Run.{latest}
use Rattle.world.specs.World.{node_takes}
use Rattle.world.specs.Steps.Nodes.{IsNode}
use Rattle.world.specs.Steps.Histories.Tasks.{same_task-itself, same_task-true}

list_any-found : {X : Type 0} (f : X → Bool) (xs : List X) (i : ℕ) (x : X) → slice_get xs i ≡ Some x → f x ≡ true → list_any f xs ≡ true
list_any-found f xs i x at h = list_any_at f xs i x (slice_get_within xs i x at) (ap f (get_or_from_slice_get xs i x x at) ∙ h)

list_any-some : {X : Type 0} (f : X → Bool) (xs : List X) → list_any f xs ≡ true → (i : ℕ) × (x : X) × (slice_get xs i ≡ Some x) × (f x ≡ true)
list_any-some f xs h =
    let any = Any-from_list_any f xs h in
    (any.0, any.1, slice_get_read xs (length xs) any.0 any.1 refl any.2 (sym any.3), any.4)

-- a resource takes from a producer of one of its tasks' codes
pub takes-from : (plant : PlantValue) (t : TaskRef) (code : CodeValue) (k : ℕ) (p : TaskRef) → code_at plant t ≡ Some code → slice_get code.producers k ≡ Some p → node_takes plant t.resource p ≡ true
takes-from plant t code k p found at =
    list_any-found (λ (c : CodeValue). list_any (λ q. same_task q p) c.producers) (codes_at plant t.resource) t.task code found
    (list_any-found (λ q. same_task q p) code.producers k p at (same_task-itself p))

-- the takes are those of what is known of the producers
takes-same : (f g : TaskRef → Option Evaluated) (code : CodeValue) → ((k : ℕ) (q : TaskRef) → slice_get code.producers k ≡ Some q → f q ≡ g q) → takes_of f code ≡ takes_of g code
takes-same f g code same = by code.producers code.expected same where
  by : (ps : List TaskRef) (es : List _) → ((k : ℕ) (q : TaskRef) → slice_get ps k ≡ Some q → f q ≡ g q) → map (λ e. take_of e.0 e.1 (f e.0)) (zip ps es) ≡ map (λ e. take_of e.0 e.1 (g e.0)) (zip ps es)
  by [] es h = refl
  by (p ∷ ps) [] h = refl
  by (p ∷ ps) (ks ∷ es) h = rw (h zero p refl, by ps es (λ k. h (suc k)))

-- a core's takes are the run's
pub node-takes : (s : Setting) (h : List Event) (log : List Evaluated) (t : TaskRef) (core : CoreValue) (code : CodeValue) → IsNode s h log t.resource core → code_at s.plant t ≡ Some code
    → takes_of (known core.table) code ≡ takes_of (λ p. latest s t.resource h p log) code
node-takes s h log t core code node found =
    takes-same (known core.table) (λ p. latest s t.resource h p log) code
    (λ k q at. node.keeps q ∙ ap (λ w. cond w (latest s t.resource h q log) None) (or_right (eqb q.resource t.resource) (node_takes s.plant t.resource q) (takes-from s.plant t code k q found at)))

-- what is of use is of another resource's task, from which a task here takes
pub usable-takes : (s : Setting) (h : List Event) (log : List Evaluated) (n : ℕ) (core : CoreValue) (x : Evaluated) → IsNode s h log n core → IsUsable core x
    → (x.name.task.resource ≢ n) × (node_takes s.plant n x.name.task ≡ true)
usable-takes s h log n core x node usable =
    let taker = usable.expected in
    let here : node_takes core.plant core.resource x.name.task ≡ true =
    takes-from core.plant (record { resource = core.resource; task = taker.task }) taker.code taker.place x.name.task taker.found taker.producer_is in (
      subst (λ m. x.name.task.resource ≢ m) node.resource usable.another,
      subst (λ m. node_takes s.plant m x.name.task ≡ true) node.resource (subst (λ p. node_takes p core.resource x.name.task ≡ true) node.plant here),
    )

-- and the other way round, for an evaluation of the plant
pub takes-usable : (s : Setting) (h : List Event) (log : List Evaluated) (n : ℕ) (core : CoreValue) (x : Evaluated) (code : CodeValue) → IsSoundPlant s.plant → IsNode s h log n core
    → code_at s.plant x.name.task ≡ Some code → map kind_of x.outputs ≡ image_kinds code → x.name.task.resource ≢ n → node_takes s.plant n x.name.task ≡ true → IsUsable core x
takes-usable s h log n core x code sound node found kinds away takes =
    let p = x.name.task in
    let some = list_any-some (λ (c : CodeValue). list_any (λ q. same_task q p) c.producers) (codes_at s.plant n) takes in
    let c = some.1 in
    let from = list_any-some (λ q. same_task q p) c.producers some.3 in
    let producer : slice_get c.producers from.0 ≡ Some p = from.2 ∙ ap Some (same_task-true from.1 p from.3) in
    let giver = sound.taken (record { resource = n; task = some.0 }) c some.2 from.0 p producer in
    let same : giver.0 ≡ code = same_Some giver.0 code (sym giver.1 ∙ found) in
    record {
      another = subst (λ m. p.resource ≢ m) (sym node.resource) away;
      expected = record {
        task = some.0;
        code = c;
        place = from.0;
        found = subst (λ m. code_at core.plant (record { resource = m; task = some.0 }) ≡ Some c) (sym node.resource) (subst (λ w. code_at w (record { resource = n; task = some.0 }) ≡ Some c) (sym node.plant) some.2);
        producer_is = producer;
        kinds_are = ap items_or_none giver.2 ∙ ap image_kinds same ∙ sym kinds;
      };
    }
