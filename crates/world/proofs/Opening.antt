-- When lists of retained values are openings of a plant.
use Rattle.std.proofs.Common.{◌≡◌, ℕ, zero, suc, ◌+◌, ◌<◌, ◌≤◌, List, [], ◌∷◌, ◌++◌, map, length, take, get_or, Option, Some, refl, ap, sym, ◌∙◌, subst, arith, Bool, true, false, ltb}
use Rattle.std.specs.Prelude.{slice_get, slice_index_or}
use Rattle.std.specs.Global.{Vec}
use Rattle.std.specs.Option.{option_map}
use Rattle.std.proofs.lemmas.Bool.{ltb-true, ltb-false}
use Rattle.std.proofs.lemmas.List.{take_more, map-append}
use Rattle.std.proofs.lemmas.Option.{none-some, same_Some, slice_get_past, get_or_from_slice_get}
use Rattle.lists.proofs.Places.{element_at}
use Rattle.std_blocks.specs.declared.value.Value.{Value}
use Rattle.lists.specs.Items.{items_or_none}
use Rattle.evaluation.specs.Steps.Facts.{initial_suits}
use Rattle.plant.specs.PlantValue.{PlantValue, ResourceValue, codes_at}
use Rattle.task_codes.specs.CodeValue.{CodeValue, lists_of}
use Rattle.evaluation.specs.Retained.{Suits, initial_retained}
use Rattle.exchange_core.specs.CoreValue.{AreOpeningOf, initial_opening}
use Rattle.world.specs.History.{Openings, AreOpenings, initial_openings, openings_at}

abbrev pub opening-of : ResourceValue → List (List Value)
opening-of r = map initial_retained r.codes

opening-at : (rs : List ResourceValue) (n : ℕ) → slice_index_or (map opening-of rs) n [] ≡ map initial_retained (items_or_none (option_map (λ (r : ResourceValue). r.codes) (slice_get rs n)))
opening-at [] n = refl
opening-at (r ∷ rs) zero = refl
opening-at (r ∷ rs) (suc n) = opening-at rs n

pub length-map : {A B : Type 0} (f : A → B) (xs : List A) → length (map f xs) ≡ length xs
length-map f [] = refl
length-map f (x ∷ xs) = ap suc (length-map f xs)

suits-each : (cs : List CodeValue) (k : ℕ) (code : CodeValue) (values : List Value) → slice_get cs k ≡ Some code → slice_get (map initial_retained cs) k ≡ Some values → Suits code values
suits-each [] k code values e f = absurd (none-some code e)
suits-each (c ∷ cs) zero code values e f = subst (Suits code) (ap initial_retained (sym (same_Some c code e)) ∙ same_Some (initial_retained c) values f) (initial_suits code)
suits-each (c ∷ cs) (suc k) code values e f = suits-each cs k code values e f

-- where nothing was kept there are openings
pub initial-openings : (plant : PlantValue) → AreOpenings plant (initial_openings plant)
initial-openings plant = record {
  many = length-map opening-of plant.resources;
  each = λ n. record {
    many = ap length (opening-at plant.resources n) ∙ length-map initial_retained (codes_at plant n);
    each = λ task code values found at. suits-each (codes_at plant n) task code values found (ap (λ o. slice_get o task) (sym (opening-at plant.resources n)) ∙ at);
  };
}

-- one more resource opens
pub opening-more : (plant : PlantValue) (i : ℕ) (tasks : List (List Value)) → i < length plant.resources → tasks ≡ initial_opening plant i
    → map opening-of (take i plant.resources) ++ tasks ∷ [] ≡ map opening-of (take (i + 1) plant.resources)
opening-more plant i tasks inside is =
    let r = element_at plant.resources i inside in
    let here : tasks ≡ opening-of r.0 = is ∙ ap (λ o. map initial_retained (items_or_none (option_map (λ (r : ResourceValue). r.codes) o))) r.1 in
    ap (λ t. map opening-of (take i plant.resources) ++ t ∷ []) (here ∙ ap opening-of (sym (get_or_from_slice_get plant.resources i r.0 r.0 r.1)))
    ∙ sym (map-append opening-of (take i plant.resources) (get_or plant.resources i r.0 ∷ []))
    ∙ ap (map opening-of) (sym (take_more plant.resources i r.0 inside))

-- the openings of a resource stand at its place
pub openings-there : (xs : List (Vec (List Value))) (k : ℕ) (d : Vec (List Value)) → k < length xs → openings_at (lists_of xs) k ≡ (get_or xs k d).items
openings-there [] k d inside = absurd (omega arith)
openings-there (x ∷ xs) zero d inside = refl
openings-there (x ∷ xs) (suc k) d inside = openings-there xs k d (omega arith)

-- a resource that there isn't has no tasks, and no openings
nowhere : (plant : PlantValue) (opening : Openings) (n : ℕ) → length plant.resources ≤ n → length opening ≤ n → AreOpeningOf plant n (openings_at opening n)
nowhere plant opening n past off =
    subst (AreOpeningOf plant n) (sym (none opening n off)) (record {
      many = sym (ap length codes);
      each = λ task code values found at. absurd (none-some code (ap (λ cs. slice_get cs task) (sym codes) ∙ found));
    }) where
      codes : codes_at plant n ≡ []
      codes = ap (λ (o : Option ResourceValue). items_or_none (option_map (λ (r : ResourceValue). r.codes) o)) (slice_get_past plant.resources n past)

      none : (xs : Openings) (k : ℕ) → length xs ≤ k → openings_at xs k ≡ []
      none [] k e = refl
      none (x ∷ xs) zero e = absurd (omega arith)
      none (x ∷ xs) (suc k) e = none xs k (omega arith)

-- openings are known by those of the resources that there are
pub openings-all : (plant : PlantValue) (opening : Openings) → length opening ≡ length plant.resources → ((k : ℕ) → k < length opening → AreOpeningOf plant k (openings_at opening k)) → AreOpenings plant opening
openings-all plant opening many each = record { many = many; each = λ n. by n (ltb n (length opening)) refl } where
  by : (n : ℕ) (b : Bool) → ltb n (length opening) ≡ b → AreOpeningOf plant n (openings_at opening n)
  by n true e = each n (ltb-true n (length opening) e)
  by n false e = let past : length opening ≤ n = ltb-false n (length opening) e in nowhere plant opening n (omega (arith, many, past)) past
