-- Counts grow part by part, and stay within the whole.
use Rattle.std.proofs.Common.{◌≡◌, ℕ, ◌+◌, ◌<◌, ◌≤◌, List, length, take, sum_by, Option, Some, None, inl, inr, refl, sym, ap, ◌∙◌, arith}
use Rattle.std.specs.Prelude.{slice_get}
use Rattle.std.specs.Option.{option_map, option_map_or}
use Rattle.std.proofs.lemmas.List.{take_all}
use Rattle.std.proofs.lemmas.List.Sums.{sum_by_more, sum_by-take-le}
use Rattle.std.proofs.lemmas.Option.{slice_get_cases, slice_get_within, get_or_from_slice_get}
use Rattle.lists.specs.Items.{items_or_none}
use Rattle.plant.specs.PlantValue.{ResourceValue, PlantValue, tasks_at, codes_at}
use Rattle.plant.specs.Counts.{task_count, instances_of, program_count, connections_of, connection_count}

pub more_found : {X : Type 0} (f : X → ℕ) (xs : List X) (n : ℕ) (x : X) → slice_get xs n ≡ Some x → sum_by f (take (n + 1) xs) ≡ sum_by f (take n xs) + f x
more_found f xs n x is = sum_by_more f xs n x (slice_get_within xs n x is) ∙ ap (λ y. sum_by f (take n xs) + f y) (get_or_from_slice_get xs n x x is)

pub room_found : {X : Type 0} (f : X → ℕ) (xs : List X) (n : ℕ) (x : X) → slice_get xs n ≡ Some x → sum_by f (take n xs) + f x ≤ sum_by f xs
room_found f xs n x is = omega (arith, more_found f xs n x is, sum_by-take-le f xs (n + 1))

-- one element more, if there is one
pub more_or : {X : Type 0} (f : X → ℕ) (xs : List X) (n : ℕ) → sum_by f (take (n + 1) xs) ≡ sum_by f (take n xs) + option_map_or f (slice_get xs n) 0
more_or f xs n = elim ((slice_get_cases xs n).1) [
  | inl found ↦ more_found f xs n found.0 found.2 ∙ ap (λ o. sum_by f (take n xs) + option_map_or f o 0) (sym found.2)
  | inr past ↦ (let same : sum_by f (take (n + 1) xs) ≡ sum_by f (take n xs) = ap (λ ys. sum_by f ys) (take_all (n + 1) xs (let long = past.0 in omega (arith, long)) ∙ sym (take_all n xs past.0)) in
      let none : option_map_or f (slice_get xs n) 0 ≡ 0 = ap (λ o. option_map_or f o 0) past.1 in omega (arith, same, none))
]

pub room_or : {X : Type 0} (f : X → ℕ) (xs : List X) (n : ℕ) → sum_by f (take n xs) + option_map_or f (slice_get xs n) 0 ≤ sum_by f xs
room_or f xs n = omega (arith, more_or f xs n, sum_by-take-le f xs (n + 1))

of_option : {X : Type 0} (o : Option (List X)) → length (items_or_none o) ≡ option_map_or length o 0
of_option None = refl
of_option (Some ys) = refl

pub at_or_none : {X : Type 0} (xs : List (List X)) (n : ℕ) → length (items_or_none (slice_get xs n)) ≡ option_map_or length (slice_get xs n) 0
at_or_none xs n = of_option (slice_get xs n)

-- one resource more
more_at : (f : ResourceValue → ℕ) (plant : PlantValue) (n v : ℕ) → n < length plant.resources → ((r : ResourceValue) → slice_get plant.resources n ≡ Some r → v ≡ f r)
    → sum_by f (take (n + 1) plant.resources) ≡ sum_by f (take n plant.resources) + v
more_at f plant n v lt is = elim ((slice_get_cases plant.resources n).1) [
  | inl found ↦ more_found f plant.resources n found.0 found.2 ∙ ap (λ k. sum_by f (take n plant.resources) + k) (sym (is found.0 found.2))
  | inr past ↦ absurd (omega (arith, lt, past.0))
]

pub tasks_more : (plant : PlantValue) (n : ℕ) → n < length plant.resources → sum_by (λ (r : ResourceValue). length r.tasks) (take (n + 1) plant.resources) ≡ sum_by (λ (r : ResourceValue). length r.tasks) (take n plant.resources) + length (tasks_at plant n)
tasks_more plant n lt = more_at (λ r. length r.tasks) plant n (length (tasks_at plant n)) lt (λ r e. ap (λ o. length (items_or_none (option_map (λ (r : ResourceValue). r.tasks) o))) e)

pub tasks_room : (plant : PlantValue) (n : ℕ) → n < length plant.resources → sum_by (λ (r : ResourceValue). length r.tasks) (take n plant.resources) + length (tasks_at plant n) ≤ task_count plant
tasks_room plant n lt = omega (arith, tasks_more plant n lt, sum_by-take-le (λ (r : ResourceValue). length r.tasks) plant.resources (n + 1))

pub programs_more : (plant : PlantValue) (n : ℕ) → n < length plant.resources → sum_by (λ (r : ResourceValue). instances_of r.codes) (take (n + 1) plant.resources) ≡ sum_by (λ (r : ResourceValue). instances_of r.codes) (take n plant.resources) + instances_of (codes_at plant n)
programs_more plant n lt = more_at (λ r. instances_of r.codes) plant n (instances_of (codes_at plant n)) lt (λ r e. ap (λ o. instances_of (items_or_none (option_map (λ (r : ResourceValue). r.codes) o))) e)

pub programs_room : (plant : PlantValue) (n : ℕ) → n < length plant.resources → sum_by (λ (r : ResourceValue). instances_of r.codes) (take n plant.resources) + instances_of (codes_at plant n) ≤ program_count plant
programs_room plant n lt = omega (arith, programs_more plant n lt, sum_by-take-le (λ (r : ResourceValue). instances_of r.codes) plant.resources (n + 1))

pub connections_more : (plant : PlantValue) (n : ℕ) → n < length plant.resources → sum_by (λ (r : ResourceValue). connections_of r.codes) (take (n + 1) plant.resources) ≡ sum_by (λ (r : ResourceValue). connections_of r.codes) (take n plant.resources) + connections_of (codes_at plant n)
connections_more plant n lt = more_at (λ r. connections_of r.codes) plant n (connections_of (codes_at plant n)) lt (λ r e. ap (λ o. connections_of (items_or_none (option_map (λ (r : ResourceValue). r.codes) o))) e)

pub connections_room : (plant : PlantValue) (n : ℕ) → n < length plant.resources → sum_by (λ (r : ResourceValue). connections_of r.codes) (take n plant.resources) + connections_of (codes_at plant n) ≤ connection_count plant
connections_room plant n lt = omega (arith, connections_more plant n lt, sum_by-take-le (λ (r : ResourceValue). connections_of r.codes) plant.resources (n + 1))

-- the codes of a resource are as many as its tasks
pub as_many : (plant : PlantValue) (n : ℕ) → ((r : ResourceValue) (k : ℕ) → slice_get plant.resources k ≡ Some r → length r.codes ≡ length r.tasks) → length (codes_at plant n) ≡ length (tasks_at plant n)
as_many plant n coded = elim ((slice_get_cases plant.resources n).1) [
  | inl found ↦ (let same = coded found.0 n found.2 in rw found.2 same)
  | inr past ↦ (let none = past.1 in rw none refl)
]
