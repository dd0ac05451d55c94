-- A plant that is read keeps the limits, so its counts are small.
use Rattle.std.proofs.Common.{◌≡◌, ℕ, zero, suc, ◌≤◌, Bool, true, false, cond, List, [], ◌∷◌, length, get_or, sum_by, All, Some, refl, ap, subst, ◌∙◌, arith}
use Rattle.std.specs.Prelude.{slice_get}
use Rattle.std.specs.List.{flat_map, filter, AllZip}
use Rattle.std.proofs.lemmas.List.{length-map}
use Rattle.std.proofs.lemmas.List.Concat.{length-flat_map}
use Rattle.std.proofs.lemmas.List.Elements.{All-filter}
use Rattle.std.proofs.lemmas.List.Sums.{sum_by-le, get_or-le-sum_by}
use Rattle.std.proofs.lemmas.Option.{slice_get_within, get_or_from_slice_get}
use Rattle.lists.proofs.Zips.{zip_length}
use Rattle.lists.proofs.Members.{all_from_places, all_first, all_last, all_at}
use Rattle.lists.proofs.Places.{element_at}
use Rattle.task_codes.specs.declared.binding.Binding.{Binding}
use Rattle.plant_grammar.specs.declared.grammar.tree.Resource.{Resource}
use Rattle.plant_grammar.specs.declared.grammar.tree.TaskLine.{TaskLine}
use Rattle.plant_grammar.specs.Grammar.{Tree}
use Rattle.plant_grammar.specs.Lawful.{tasks_of, uses_of, binds_of, all_uses, IsTreeLawful, IsResourceLawful}
use Rattle.lists.specs.Items.{items_or_none}
use Rattle.plant.specs.PlantValue.{ResourceValue, PlantValue}
use Rattle.task_codes.specs.CodeValue.{CodeValue, bindings_at}
use Rattle.plant.specs.StandsFor.{runs_in, task_value, IsBindingOf, IsCodeOf, IsResourceOf}
use Rattle.plant.specs.PlantText.{IsPlantText}
use Rattle.plant.specs.Counts.{instances_of, connections_of, AreCounts}

zip_get : {X Y : Type 0} (R : X → Y → Type 0) (xs : List X) (ys : List Y) (k : ℕ) (y : Y) → AllZip R xs ys → slice_get ys k ≡ Some y → (x : X) × (slice_get xs k ≡ Some x) × R x y
zip_get R [] [] k y each is = cc
zip_get R [] (z ∷ ys) k y each is = absurd each
zip_get R (x ∷ xs) [] k y each is = absurd each
zip_get R (x ∷ xs) (z ∷ ys) zero y each is = let e : z ≡ y = cc in (x, refl, subst (R x) e each.0)
zip_get R (x ∷ xs) (z ∷ ys) (suc k) y each is = zip_get R xs ys k y each.1 is

all_part : {X Y : Type 0} (P : Y → Type 0) (f : X → List Y) (xs : List X) (k : ℕ) (x : X) → All P (flat_map f xs) → slice_get xs k ≡ Some x → All P (f x)
all_part P f [] k x all is = cc
all_part P f (y ∷ ys) zero x all is = let e : y ≡ x = cc in subst (λ z. All P (f z)) e (all_first P (f y) (flat_map f ys) all)
all_part P f (y ∷ ys) (suc k) x all is = all_part P f ys k x (all_last P (f y) (flat_map f ys) all) is

-- a part is no longer than the whole
part_short : {X Y : Type 0} (f : X → List Y) (xs : List X) (k : ℕ) (x : X) → slice_get xs k ≡ Some x → length (f x) ≤ length (flat_map f xs)
part_short f xs k x is =
    let one : length (f (get_or xs k x)) ≤ sum_by (λ y. length (f y)) xs = get_or-le-sum_by (λ y. length (f y)) xs k x (slice_get_within xs k x is) in
    let here : length (f (get_or xs k x)) ≡ length (f x) = ap (λ y. length (f y)) (get_or_from_slice_get xs k x x is) in
    omega (arith, one, here, length-flat_map f xs)

filter_short : {X : Type 0} (p : X → Bool) (xs : List X) → length (filter p xs) ≤ length xs
filter_short p [] = omega arith
filter_short p (x ∷ xs) = let more = filter_short p xs in elim (p x) as (λ b. length (cond b (x ∷ filter p xs) (filter p xs)) ≤ suc (length xs)) [ true ↦ omega (arith, more) | false ↦ omega (arith, more) ]

-- the counts of a code
record IsSmallCode (c : CodeValue) : Type 0 where
  programs : length c.programs ≤ 64
  connections : sum_by length c.bindings ≤ 262144

-- each instance binds few inputs
few_bound : (tree : Tree) → IsTreeLawful tree → All (λ u. length (binds_of u) ≤ 4096) (all_uses tree)
few_bound tree lawful = all_from_places (λ u. length (binds_of u) ≤ 4096) (all_uses tree) (λ k u is. let short = part_short binds_of (all_uses tree) k u is in let few = lawful.few_binds in omega (arith, short, few))

small_code : (tree : Tree) (plant : PlantValue) (r : Resource) (t : TaskLine) (c : CodeValue) → length (uses_of r) ≤ 64 → All (λ u. length (binds_of u) ≤ 4096) (uses_of r) → IsCodeOf tree plant r t c → IsSmallCode c
small_code tree plant r t c few bound of =
    let runs = runs_in r t in
    let short : length runs ≤ length (uses_of r) = filter_short _ (uses_of r) in
    let many = of.many in
    let as-many = of.sound.each_bound in
    let run-bound = All-filter _ (λ u. length (binds_of u) ≤ 4096) (uses_of r) bound in
    let each : All (λ bs. length bs ≤ 4096) c.bindings = all_from_places (λ (bs : List Binding). length bs ≤ 4096) c.bindings (λ i bs is.
    let lt = slice_get_within c.bindings i bs is in
    let p = element_at c.programs i (omega (arith, lt, as-many)) in
    let u = element_at runs i (omega (arith, lt, as-many, many)) in
    let instance = of.each i u.0 p.0 u.1 p.1 in
    let same = zip_length (IsBindingOf plant c instance.type) (binds_of u.0) (bindings_at c i) instance.bound in
    let here : length (bindings_at c i) ≡ length bs = ap (λ o. length (items_or_none o)) is in
    let one = all_at (λ u. length (binds_of u) ≤ 4096) runs i u.0 run-bound u.1 in
    omega (arith, same, here, one)) in
    let total = sum_by-le length 4096 c.bindings each in
    record { programs = omega (arith, short, many, few); connections = omega (arith, total, as-many, short, many, few) }

-- the counts of a resource
record IsSmallResource (v : ResourceValue) : Type 0 where
  tasks : length v.tasks ≤ 16
  programs : instances_of v.codes ≤ 1024
  connections : connections_of v.codes ≤ 4194304

small_resource : (tree : Tree) (plant : PlantValue) (k : ℕ) (r : Resource) (v : ResourceValue) → IsTreeLawful tree → slice_get tree.resources k ≡ Some r → IsResourceOf tree plant r v → IsSmallResource v
small_resource tree plant k r v tree_lawful is of =
    let lawful = all_at (IsResourceLawful tree) tree.resources k r tree_lawful.resources_lawful is in
    let few : length (uses_of r) ≤ 64 = let short = part_short uses_of tree.resources k r is in let all = tree_lawful.few_instances in omega (arith, short, all) in
    let bound = all_part (λ u. length (binds_of u) ≤ 4096) uses_of tree.resources k r (few_bound tree tree_lawful) is in
    let tasks : length v.tasks ≡ length (tasks_of r) = ap length of.tasks_are ∙ length-map (tasks_of r) task_value in
    let codes = zip_length (IsCodeOf tree plant r) (tasks_of r) v.codes of.codes_are in
    let limit = lawful.few_tasks in
    let small : All IsSmallCode v.codes = all_from_places IsSmallCode v.codes (λ j c at. let t = zip_get (IsCodeOf tree plant r) (tasks_of r) v.codes j c of.codes_are at in small_code tree plant r t.0 c few bound t.2) in
    let programs = sum_by-le (λ (c : CodeValue). length c.programs) 64 v.codes (λ j d lt. (small j d lt).programs) in
    let connections = sum_by-le (λ (c : CodeValue). sum_by length c.bindings) 262144 v.codes (λ j d lt. (small j d lt).connections) in
    record { tasks = omega (arith, tasks, limit); programs = omega (arith, programs, codes, limit); connections = omega (arith, connections, codes, limit) }

-- the counts of a plant that is read
pub counts_are : (text : List ℕ) (plant : PlantValue) → IsPlantText text plant → AreCounts plant
counts_are text plant read =
    let tree = read.tree in
    let many = zip_length (IsResourceOf tree plant) tree.resources plant.resources read.stands in
    let few = read.faultless.lawful.few_resources in
    let small : All IsSmallResource plant.resources = all_from_places IsSmallResource plant.resources (λ k v at. let r = zip_get (IsResourceOf tree plant) tree.resources plant.resources k v read.stands at in small_resource tree plant k r.0 v read.faultless.lawful r.1 r.2) in
    let tasks = sum_by-le (λ (r : ResourceValue). length r.tasks) 16 plant.resources (λ k d lt. (small k d lt).tasks) in
    let programs = sum_by-le (λ (r : ResourceValue). instances_of r.codes) 1024 plant.resources (λ k d lt. (small k d lt).programs) in
    let connections = sum_by-le (λ (r : ResourceValue). connections_of r.codes) 4194304 plant.resources (λ k d lt. (small k d lt).connections) in
    record { tasks = omega (arith, tasks, many, few); programs = omega (arith, programs, many, few); connections = omega (arith, connections, many, few) }
