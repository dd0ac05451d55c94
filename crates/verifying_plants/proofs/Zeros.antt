-- Numbers that are put behind others, one after the other.
use Rattle.std.proofs.Common.{◌≡◌, ℕ, ◌+◌, ◌<◌, List, [], ◌∷◌, ◌++◌, length, get_or, take, refl, sym, ap, ◌∙◌, add-one}
use Rattle.std.specs.List.{flat_map}
use Rattle.std.proofs.lemmas.Grind.{flat_map-append}
use Rattle.std.proofs.lemmas.List.{append-nil}
use Rattle.std.proofs.lemmas.List.Concat.{flat_map-cons}
use Rattle.std.proofs.lemmas.Option.{get_or_from_slice_get}
use Rattle.lists.specs.Items.{items_or_none}
use Rattle.lists.proofs.Places.{element_at}
use Rattle.task_codes.specs.declared.binding.Binding.{Binding}
use Rattle.task_codes.specs.declared.task_ref.TaskRef.{TaskRef}
use Rattle.task_codes.specs.CodeValue.{CodeValue, bindings_at}
use Rattle.plant.specs.PlantValue.{PlantValue, tasks_at}
use Rattle.plant_claims.proofs.Picking.{flat-more}
use Rattle.verifying_plants.specs.ZeroWords.{first_tasks, tasks_before, with_number, with_numbers}

with-both : (numbers xs ys : List ℕ) → with_numbers numbers (xs ++ ys) ≡ with_numbers (with_numbers numbers xs) ys
with-both numbers [] ys = refl
with-both numbers (x ∷ xs) ys = with-both (with_number numbers x) xs ys

-- those of some, and behind them those of others
with-next : (first now new xs ys zs : List ℕ) → zs ≡ xs ++ ys → now ≡ with_numbers first xs → new ≡ with_numbers now ys → new ≡ with_numbers first zs
with-next first now new xs ys zs are before after =
    after ∙ ap (λ l. with_numbers l ys) before ∙ sym (with-both first xs ys) ∙ ap (with_numbers first) (sym are)

-- one more of a list
pub with-more : {A : Type 0} (f : A → List ℕ) (xs : List A) (i : ℕ) (d : A) (first now new : List ℕ) → i < length xs → now ≡ with_numbers first (flat_map f (take i xs))
    → new ≡ with_numbers now (f (get_or xs i d)) → new ≡ with_numbers first (flat_map f (take (i + 1) xs))
with-more f xs i d first now new within before after =
    with-next first now new (flat_map f (take i xs)) (f (get_or xs i d)) (flat_map f (take (i + 1) xs)) (flat-more f xs i d within) before after

-- one more program of a task
pub with-program : (f : List Binding → List ℕ) (c : CodeValue) (k : ℕ) (first now new : List ℕ) → k < length c.bindings → now ≡ with_numbers first (flat_map f (take k c.bindings))
    → new ≡ with_numbers now (f (bindings_at c k)) → new ≡ with_numbers first (flat_map f (take (k + 1) c.bindings))
with-program f c k first now new within before after =
    let found = element_at c.bindings k within in
    let here : bindings_at c k ≡ get_or c.bindings k found.0 = ap items_or_none found.1 ∙ sym (get_or_from_slice_get c.bindings k found.0 found.0 found.1) in
    with-more f c.bindings k found.0 first now new within before (after ∙ ap (λ bs. with_numbers now (f bs)) here)

-- one more task of a resource
pub with-task : (f : TaskRef → List ℕ) (r k : ℕ) (first now new : List ℕ) → now ≡ with_numbers first (flat_map f (first_tasks r k))
    → new ≡ with_numbers now (f (record { resource = r; task = k })) → new ≡ with_numbers first (flat_map f (first_tasks r (k + 1)))
with-task f r k first now new before after =
    let t : TaskRef = record { resource = r; task = k } in
    with-next first now new (flat_map f (first_tasks r k)) (f t) (flat_map f (first_tasks r (k + 1)))
    (ap (λ n. flat_map f (first_tasks r n)) (add-one k) ∙ flat_map-append f (first_tasks r k) (t ∷ []) ∙ ap (λ l. flat_map f (first_tasks r k) ++ l) (flat_map-cons f t [] ∙ append-nil (f t)))
    before after

-- one more resource
pub with-resource : (f : TaskRef → List ℕ) (plant : PlantValue) (r : ℕ) (first now new : List ℕ) → now ≡ with_numbers first (flat_map f (tasks_before plant r))
    → new ≡ with_numbers now (flat_map f (first_tasks r (length (tasks_at plant r)))) → new ≡ with_numbers first (flat_map f (tasks_before plant (r + 1)))
with-resource f plant r first now new before after =
    let tasks = first_tasks r (length (tasks_at plant r)) in
    with-next first now new (flat_map f (tasks_before plant r)) (flat_map f tasks) (flat_map f (tasks_before plant (r + 1)))
    (ap (λ n. flat_map f (tasks_before plant n)) (add-one r) ∙ flat_map-append f (tasks_before plant r) tasks) before after
