-- What is kept of the tasks of a resource, one after the other. The crates above cite it.
use Rattle.std.specs.Prelude.{◌≡◌, ℕ, ◌+◌, ◌<◌, ◌⊎◌, ◌++◌, List, [], ◌∷◌, Option, Some, None, length, slice_get, refl}
use Rattle.std.proofs.Common.{inl, inr, ap, sym, ◌∙◌, subst}
use Rattle.std.specs.Option.{option_map}
use Rattle.std.proofs.lemmas.List.{length-append}
use Rattle.std.proofs.lemmas.Option.{none-some, same_Some}
use Rattle.lists.specs.Items.{items_or_none}
use Rattle.lists.proofs.Places.{element_at, push_cases}
use Rattle.std_blocks.specs.declared.value.Value.{Value}
use Rattle.plant.specs.PlantValue.{ResourceValue, PlantValue, codes_at, tasks_at, IsSoundPlant}
use Rattle.task_codes.specs.CodeValue.{CodeValue}
use Rattle.evaluation.specs.Retained.{Suits}
use Rattle.exchange_core.specs.Openings.{AreOpeningOf}

-- each task has its code, also where there is no such resource
pub as_many_codes : (plant : PlantValue) (resource : ℕ) → IsSoundPlant plant → length (codes_at plant resource) ≡ length (tasks_at plant resource)
as_many_codes plant resource sound = by (slice_get plant.resources resource) refl
  where
    by : (o : Option ResourceValue) → slice_get plant.resources resource ≡ o
        → length (items_or_none (option_map (λ (r : ResourceValue). r.codes) o)) ≡ length (items_or_none (option_map (λ (r : ResourceValue). r.tasks) o))
    by None e = refl
    by (Some r) e = sound.coded r resource e

-- what was kept of the first tasks of a resource suits them
pub record IsKeptOf (plant : PlantValue) (resource n : ℕ) (listed : List (List Value)) : Type 0 where
  pub many : length listed ≡ n
  pub suit : (k : ℕ) (code : CodeValue) (values : List Value) → slice_get (codes_at plant resource) k ≡ Some code
      → slice_get listed k ≡ Some values → Suits code values

pub kept_none : (plant : PlantValue) (resource : ℕ) → IsKeptOf plant resource 0 []
kept_none plant resource = record { many = refl; suit = λ k code values found at. absurd (none-some values at) }

-- one more task
pub kept_more : (plant : PlantValue) (resource n : ℕ) (old : List (List Value)) (code : CodeValue) (kept : List Value) → IsKeptOf plant resource n old
    → slice_get (codes_at plant resource) n ≡ Some code → Suits code kept → IsKeptOf plant resource (n + 1) (old ++ kept ∷ [])
kept_more plant resource n old code kept is at suits = record {
  many = length-append old (kept ∷ []) ∙ ap (λ m. m + 1) is.many;
  suit = λ k other values found here. by k other values found (push_cases old kept k values here);
}
  where
    by : (k : ℕ) (other : CodeValue) (values : List Value) → slice_get (codes_at plant resource) k ≡ Some other → (slice_get old k ≡ Some values) ⊎ ((k ≡ length old) × (values ≡ kept)) → Suits other values
    by k other values found (inl here) = is.suit k other values found here
    by k other values found (inr p) =
        let same : k ≡ n = p.0 ∙ is.many in
        let one : code ≡ other = same_Some code other (sym at ∙ ap (slice_get (codes_at plant resource)) (sym same) ∙ found) in
        subst (λ c. Suits c values) one (subst (Suits code) (sym p.1) suits)

-- there is no code only behind the last task
pub no_code : (plant : PlantValue) (resource n : ℕ) → IsSoundPlant plant → n < length (tasks_at plant resource) → slice_get (codes_at plant resource) n ≡ None → ⊥
no_code plant resource n sound within none =
    let found = element_at (codes_at plant resource) n (subst (λ m. n < m) (sym (as_many_codes plant resource sound)) within) in
    none-some found.0 (sym none ∙ found.1)

pub kept_all : (plant : PlantValue) (resource n : ℕ) (listed : List (List Value)) → IsSoundPlant plant → n ≡ length (tasks_at plant resource) → IsKeptOf plant resource n listed → AreOpeningOf plant resource listed
kept_all plant resource n listed sound all is = record {
  many = is.many ∙ all ∙ sym (as_many_codes plant resource sound);
  each = λ task code values found at. is.suit task code values found at;
}
