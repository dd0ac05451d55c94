-- Where networks store, whether they are lists of elements or diagrams.
use Rattle.std.proofs.Common.{◌≡◌, ℕ, ◌+◌, ◌≤◌, ◌++◌, List, [], ◌∷◌, Some, length, map, take, refl, sym, ap, ◌∙◌}
use Rattle.std.specs.Prelude.{slice_get}
use Rattle.std.proofs.lemmas.List.{append-nil, take_all, take_more}
use Rattle.std.proofs.lemmas.List.Concat.{flat_map-append}
use Rattle.std.proofs.lemmas.Option.{get_or_from_slice_get, slice_get_within}
use Rattle.network.specs.Links.{Diagram}
use Rattle.std.specs.List.{flat_map}
use Rattle.drawings.specs.declared.place.Place.{Place}
use Rattle.network.specs.declared.element.Element.{Element}
use Rattle.network.specs.GraphValue.{diagram}
use Rattle.declared_names.specs.declared.declarations.Declaration.{Declaration}
use Rattle.text_commands.specs.Stores.{element_places, stored_places}

pub stored_in : (ds : List Declaration) (rails : List Place) (networks : List (List Element))
    → flat_map (λ (elements : List Element). flat_map (element_places ds) elements) networks ≡ stored_places ds (map (diagram rails) networks)
stored_in ds rails [] = refl
stored_in ds rails (elements ∷ networks) = ap (λ places. flat_map (element_places ds) elements ++ places) (stored_in ds rails networks)

-- where one network more stores
pub places_more : (ds : List Declaration) (networks : List Diagram) (n : ℕ) (d : Diagram) (elements : List Element) (old new : List ℕ) → slice_get networks n ≡ Some d → elements ≡ d.elements
    → old ≡ stored_places ds (take n networks) → new ≡ old ++ flat_map (element_places ds) elements → new ≡ stored_places ds (take (n + 1) networks)
places_more ds networks n d elements old new at is before more =
    let of : Diagram → List ℕ = λ (x : Diagram). flat_map (element_places ds) x.elements in
    let longer : take (n + 1) networks ≡ take n networks ++ d ∷ [] =
    take_more networks n d (slice_get_within networks n d at) ∙ ap (λ x. take n networks ++ x ∷ []) (get_or_from_slice_get networks n d d at) in
    more ∙ ap (λ es. old ++ flat_map (element_places ds) es) is ∙ ap (λ ps. ps ++ of d) before
    ∙ sym (ap (flat_map of) longer ∙ flat_map-append of (take n networks) (d ∷ []) ∙ ap (λ ps. flat_map of (take n networks) ++ ps) (append-nil (of d)))

-- no network more
pub places_all : (ds : List Declaration) (networks : List Diagram) (n : ℕ) (places : List ℕ) → length networks ≤ n → places ≡ stored_places ds (take n networks) → places ≡ stored_places ds networks
places_all ds networks n places past is = is ∙ ap (stored_places ds) (take_all n networks past)
