-- What the tasks of a resource begin with.
use Rattle.std.proofs.Common.{◌≡◌, ◌≤◌, ◌+◌, ◌⊎◌, ◌++◌, arith, ℕ, List, [], ◌∷◌, Some, inl, inr, length, refl, ap, sym, ◌∙◌, subst, take}
use Rattle.std.specs.Prelude.{slice_get, map}
use Rattle.std.proofs.lemmas.List.{map-append, take_more, take_all}
use Rattle.std.proofs.lemmas.Option.{none-some, same_Some, slice_get_within, get_or_from_slice_get}
use Rattle.lists.proofs.Places.{push_cases}
use Rattle.std_blocks.specs.declared.value.Value.{Value}
use Rattle.plant.specs.PlantValue.{PlantValue, codes_at}
use Rattle.task_codes.specs.CodeValue.{CodeValue}
use Rattle.evaluation.specs.Retained.{Suits, initial_retained}
use Rattle.exchange_core.specs.Openings.{AreOpeningOf, initial_opening}

-- the first tasks of a resource begin with their first values
pub record IsOpened (plant : PlantValue) (resource n : ℕ) (opening : List (List Value)) : Type 0 where
  pub many : length opening ≡ n
  pub are : opening ≡ map initial_retained (take n (codes_at plant resource))
  pub suit : (k : ℕ) (code : CodeValue) (values : List Value) → slice_get (codes_at plant resource) k ≡ Some code → slice_get opening k ≡ Some values → Suits code values

pub opened-none : (plant : PlantValue) (resource : ℕ) → IsOpened plant resource 0 []
opened-none plant resource = record { many = refl; are = refl; suit = λ k code values found at. absurd (none-some values at) }

pub opened-more : (plant : PlantValue) (resource n : ℕ) (old : List (List Value)) (code : CodeValue) → IsOpened plant resource n old → slice_get (codes_at plant resource) n ≡ Some code
    → Suits code (initial_retained code) → IsOpened plant resource (n + 1) (old ++ initial_retained code ∷ [])
opened-more plant resource n old code is at suits = record {
  many = length-push old ∙ ap (λ m. m + 1) is.many;
  are =
      ap (λ l. l ++ initial_retained code ∷ []) is.are
      ∙ sym (map-append initial_retained (take n codes) (code ∷ []))
      ∙ ap (λ c. map initial_retained (take n codes ++ c ∷ [])) (sym (get_or_from_slice_get codes n code code at))
      ∙ ap (map initial_retained) (sym (take_more codes n code (slice_get_within codes n code at)));
  suit = λ k other values found here. suit k other values found (push_cases old (initial_retained code) k values here);
}
  where
    codes : List CodeValue
    codes = codes_at plant resource

    length-push : (xs : List (List Value)) → length (xs ++ initial_retained code ∷ []) ≡ length xs + 1
    length-push [] = refl
    length-push (x ∷ xs) = rw (length-push xs) (omega arith)

    suit : (k : ℕ) (other : CodeValue) (values : List Value) → slice_get codes k ≡ Some other → (slice_get old k ≡ Some values) ⊎ ((k ≡ length old) × (values ≡ initial_retained code)) → Suits other values
    suit k other values found (inl here) = is.suit k other values found here
    suit k other values found (inr p) =
        let same : k ≡ n = p.0 ∙ is.many in
        let one : code ≡ other = same_Some code other (sym at ∙ ap (slice_get codes) (sym same) ∙ found) in
        subst (λ c. Suits c values) one (subst (Suits code) (sym p.1) suits)

-- and so do all of them
pub opened-all : (plant : PlantValue) (resource n : ℕ) (opening : List (List Value)) → length (codes_at plant resource) ≤ n → IsOpened plant resource n opening → opening ≡ initial_opening plant resource
opened-all plant resource n opening all is = is.are ∙ ap (map initial_retained) (take_all n (codes_at plant resource) all)

pub opened-suits : (plant : PlantValue) (resource n : ℕ) (opening : List (List Value)) → length (codes_at plant resource) ≡ n → IsOpened plant resource n opening → AreOpeningOf plant resource opening
opened-suits plant resource n opening all is = record { many = is.many ∙ sym all; each = λ task code values found at. is.suit task code values found at }
