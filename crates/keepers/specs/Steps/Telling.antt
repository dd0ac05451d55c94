-- What a keeper tells of the tasks of a resource, one after the other. The crates above cite it.
use Rattle.std.specs.Prelude.{◌≡◌, ℕ, ◌⊎◌, ◌++◌, List, [], ◌∷◌, Some, Ok, length, slice_get}
use Rattle.std.proofs.Common.{inl, inr, ap, sym, ◌∙◌, subst}
use Rattle.std.proofs.lemmas.Option.{none-some, same_Some}
use Rattle.lists.proofs.Places.{push_cases}
use Rattle.std_blocks.specs.declared.value.Value.{Value}
use Rattle.task_codes.specs.CodeValue.{CodeValue}
use Rattle.plant.specs.PlantValue.{PlantValue, codes_at}
use Rattle.keepers.specs.Keepers.{Telling, TellsNoMore}
use Rattle.keepers.specs.Openings.{TellsOpening}

pub told_none : (tells : Telling) (plant : PlantValue) (n : ℕ) → TellsOpening tells plant n []
told_none tells plant n = λ task code values found at. absurd (none-some values at)

-- one more task
pub told_more : (tells : Telling) (plant : PlantValue) (n task : ℕ) (old : List (List Value)) (code : CodeValue) (kept : List Value) → TellsOpening tells plant n old → length old ≡ task
    → slice_get (codes_at plant n) task ≡ Some code → tells task code (Ok kept) → TellsOpening tells plant n (old ++ kept ∷ [])
told_more tells plant n task old code kept told many at given = λ k other values found here. by k other values found (push_cases old kept k values here)
  where
    by : (k : ℕ) (other : CodeValue) (values : List Value) → slice_get (codes_at plant n) k ≡ Some other → (slice_get old k ≡ Some values) ⊎ ((k ≡ length old) × (values ≡ kept)) → tells k other (Ok values)
    by k other values found (inl here) = told k other values found here
    by k other values found (inr p) =
        let same : k ≡ task = p.0 ∙ many in
        let one : code ≡ other = same_Some code other (sym at ∙ ap (slice_get (codes_at plant n)) (sym same) ∙ found) in
        subst (λ c. tells k c (Ok values)) one (subst (λ v. tells k code (Ok v)) (sym p.1) (subst (λ j. tells j code (Ok kept)) (sym same) given))

-- what is told later could be told at first
pub tells_more : (first old new : Telling) → TellsNoMore first old → TellsNoMore old new → TellsNoMore first new
tells_more first old new a b = λ task code answer h. a task code answer (b task code answer h)
