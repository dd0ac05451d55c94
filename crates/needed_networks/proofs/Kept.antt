-- The networks that are kept, one after the other.
use Rattle.std.proofs.Common.{◌≡◌, ℕ, zero, suc, ◌+◌, List, [], ◌∷◌, ◌++◌, Bool, true, false, Some, map, take, slice_get, get_or, append-nil, refl, sym, ap, ◌∙◌, arith}
use Rattle.std.specs.Prelude.{if◌then◌else◌}
use Rattle.std.proofs.lemmas.List.{map-append}
use Rattle.std.proofs.lemmas.Option.{none-some, same_Some}
use Rattle.drawings.specs.declared.place.Place.{Place}
use Rattle.network.specs.declared.element.Element.{Element}
use Rattle.network.specs.Links.{Diagram}
use Rattle.network.specs.GraphValue.{diagram}
use Rattle.needed_networks.specs.Slices.{HaveRails, kept_networks}

-- one more network
kept_here : Bool → Diagram → List Diagram
kept_here omitted d = if omitted then [] else d ∷ []

abbrev elements_of : List Diagram → List (List Element)
elements_of networks = map (λ (d : Diagram). d.elements) networks

kept_more : (omitted : List Bool) (networks : List Diagram) (k : ℕ) (d : Diagram) → slice_get networks k ≡ Some d
    → kept_networks omitted (take (suc k) networks) ≡ kept_networks omitted (take k networks) ++ kept_here (get_or omitted k false) d
unfolding kept_here
kept_more omitted [] k d at = absurd (none-some d at)
kept_more [] (n ∷ networks) zero d at = ap (λ x. x ∷ []) (same_Some n d at)
kept_more (false ∷ omitted) (n ∷ networks) zero d at = ap (λ x. x ∷ []) (same_Some n d at)
kept_more (true ∷ omitted) (n ∷ networks) zero d at = refl
kept_more [] (n ∷ networks) (suc k) d at = ap (λ l. n ∷ l) (kept_more [] networks k d at)
kept_more (false ∷ omitted) (n ∷ networks) (suc k) d at = ap (λ l. n ∷ l) (kept_more omitted networks k d at)
kept_more (true ∷ omitted) (n ∷ networks) (suc k) d at = kept_more omitted networks k d at

kept_next : (omitted : List Bool) (networks : List Diagram) (k : ℕ) (d : Diagram) (on : Bool) → slice_get networks k ≡ Some d → get_or omitted k false ≡ on
    → kept_networks omitted (take (k + 1) networks) ≡ kept_networks omitted (take k networks) ++ kept_here on d
kept_next omitted networks k d on at is =
    let e : k + 1 ≡ suc k = omega arith in
    ap (λ j. kept_networks omitted (take j networks)) e ∙ kept_more omitted networks k d at ∙ ap (λ b. kept_networks omitted (take k networks) ++ kept_here b d) is

-- one more that is left out, or that is kept
pub omitted_more : (omitted : List Bool) (networks : List Diagram) (k : ℕ) (d : Diagram) (found : List (List Element)) → slice_get networks k ≡ Some d → get_or omitted k false ≡ true
    → found ≡ elements_of (kept_networks omitted (take k networks)) → found ≡ elements_of (kept_networks omitted (take (k + 1) networks))
unfolding kept_here
omitted_more omitted networks k d found at on is =
    let same : kept_networks omitted (take (k + 1) networks) ≡ kept_networks omitted (take k networks) = kept_next omitted networks k d true at on ∙ append-nil (kept_networks omitted (take k networks)) in
    is ∙ ap elements_of (sym same)

pub found_more : (omitted : List Bool) (networks : List Diagram) (k : ℕ) (d : Diagram) (found : List (List Element)) (elements : List Element)
    → slice_get networks k ≡ Some d → get_or omitted k false ≡ false → elements ≡ d.elements
    → found ≡ elements_of (kept_networks omitted (take k networks)) → found ++ elements ∷ [] ≡ elements_of (kept_networks omitted (take (k + 1) networks))
unfolding kept_here
found_more omitted networks k d found elements at off same is =
    let more : kept_networks omitted (take (k + 1) networks) ≡ kept_networks omitted (take k networks) ++ d ∷ [] = kept_next omitted networks k d false at off in
    ap (λ l. l ++ elements ∷ []) is ∙ ap (λ x. elements_of (kept_networks omitted (take k networks)) ++ x ∷ []) same
    ∙ sym (map-append (λ (d : Diagram). d.elements) (kept_networks omitted (take k networks)) (d ∷ [])) ∙ ap elements_of (sym more)

-- the diagrams of the elements with their rails
with_rails : (d : Diagram) (rails : List Place) (kept : List Diagram) → d.rails ≡ rails → map (diagram rails) (elements_of kept) ≡ kept
    → map (diagram rails) (elements_of (d ∷ kept)) ≡ d ∷ kept
with_rails d rails kept same rest = ap (λ r. diagram r d.elements ∷ map (diagram rails) (elements_of kept)) (sym same) ∙ ap (λ l. d ∷ l) rest

rails_kept : (omitted : List Bool) (networks : List Diagram) (rails : List Place) → HaveRails networks rails
    → map (diagram rails) (elements_of (kept_networks omitted networks)) ≡ kept_networks omitted networks
rails_kept omitted [] rails have = refl
rails_kept [] (d ∷ networks) rails have = with_rails d rails (kept_networks [] networks) (have 0 d refl) (rails_kept [] networks rails (λ k e at. have (suc k) e at))
rails_kept (false ∷ omitted) (d ∷ networks) rails have = with_rails d rails (kept_networks omitted networks) (have 0 d refl) (rails_kept omitted networks rails (λ k e at. have (suc k) e at))
rails_kept (true ∷ omitted) (d ∷ networks) rails have = rails_kept omitted networks rails (λ k e at. have (suc k) e at)

-- networks that are those of a graph with the same rails
pub slice_networks : (omitted : List Bool) (networks made : List Diagram) (rails graph_rails : List Place) (found : List (List Element)) → graph_rails ≡ rails
    → found ≡ elements_of (kept_networks omitted networks) → made ≡ map (diagram graph_rails) found → HaveRails networks rails → made ≡ kept_networks omitted networks
slice_networks omitted networks made rails graph_rails found same is bound have =
    bound ∙ ap (λ r. map (diagram r) found) same ∙ ap (map (diagram rails)) is ∙ rails_kept omitted networks rails have
