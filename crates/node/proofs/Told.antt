-- What keepers tell of the tasks of their resources, and that the journals open with it.
use Rattle.std.proofs.Common.{arith, ◌≡◌, ◌⊎◌, inl, inr, ℕ, Ok, ◌++◌, List, [], ◌∷◌, Some, length, slice_get, sym, ap, ◌∙◌, subst}
use Rattle.std.specs.Option.{option_map}
use Rattle.std.proofs.lemmas.Option.{slice_get-map, slice_get_within}
use Rattle.lists.proofs.Places.{push_cases}
use Rattle.std_blocks.specs.declared.value.Value.{Value}
use Rattle.plant.specs.PlantValue.{PlantValue}
use Rattle.keepers.specs.Keepers.{Telling, TellsNoMore}
use Rattle.node_reports.specs.declared.journal.Journal.{Journal}
use Rattle.node_reports.specs.Journals.{openings_of}
use Rattle.keepers.specs.Openings.{TellsOpening}
use Rattle.node.specs.Openings.{OpenAsTold}
use Rattle.node.specs.Steps.Working.{AreTold}

-- what an opening is told by later could be told at first
pub told_before : (first later : Telling) (plant : PlantValue) (n : ℕ) (opening : List (List Value)) → TellsNoMore first later → TellsOpening later plant n opening → TellsOpening first plant n opening
told_before first later plant n opening stays told = λ task code values found at. stays task code (Ok values) (told task code values found at)

-- and what could be told at first may be told later
pub told_after : (first later : Telling) (plant : PlantValue) (n : ℕ) (opening : List (List Value)) → TellsNoMore later first → TellsOpening first plant n opening → TellsOpening later plant n opening
told_after first later plant n opening stays told = λ task code values found at. stays task code (Ok values) (told task code values found at)

-- one more keeper
pub told_push : {K : Type 0} (tells : K → Telling) (plant : PlantValue) (keepers : List K) (openings : List (List (List Value))) (keeper : K) (opening : List (List Value)) (n : ℕ) → length openings ≡ length keepers → n ≡ length keepers
    → AreTold tells plant keepers openings → TellsOpening (tells keeper) plant n opening → AreTold tells plant (keepers ++ keeper ∷ []) (openings ++ opening ∷ [])
told_push {K} tells plant keepers openings keeper opening n long counted told one = λ k asked values at found. by k asked values (push_cases keepers keeper k asked at) (push_cases openings opening k values found)
  where
    by : (k : ℕ) (asked : K) (values : List (List Value)) → (slice_get keepers k ≡ Some asked) ⊎ ((k ≡ length keepers) × (asked ≡ keeper))
        → (slice_get openings k ≡ Some values) ⊎ ((k ≡ length openings) × (values ≡ opening)) → TellsOpening (tells asked) plant k values
    by k asked values (inl at) (inl found) = told k asked values at found
    by k asked values (inl at) (inr p) = absurd (let within = slice_get_within keepers k asked at in let last = p.0 in omega (arith, within, last, long))
    by k asked values (inr p) (inl found) = absurd (let within = slice_get_within openings k values found in let last = p.0 in omega (arith, within, last, long))
    by k asked values (inr p) (inr q) =
        subst (λ (a : K). TellsOpening (tells a) plant k values) (sym p.1)
        (subst (λ v. TellsOpening (tells keeper) plant k v) (sym q.1) (subst (λ i. TellsOpening (tells keeper) plant i opening) (counted ∙ sym p.0) one))

-- journals with these openings
pub open_as_told : {K : Type 0} (tells : K → Telling) (plant : PlantValue) (keepers : List K) (openings : List (List (List Value))) (journals : List Journal) → AreTold tells plant keepers openings → openings_of journals ≡ openings
    → OpenAsTold tells plant keepers journals
open_as_told tells plant keepers openings journals told are = λ k keeper j at found.
    let opened : slice_get (openings_of journals) k ≡ Some j.opening = slice_get-map (λ (i : Journal). i.opening) journals k ∙ ap (option_map (λ (i : Journal). i.opening)) found in
    told k keeper j.opening at (subst (λ (l : List (List (List Value))). slice_get l k ≡ Some j.opening) are opened)
