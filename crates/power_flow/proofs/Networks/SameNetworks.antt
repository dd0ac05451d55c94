-- Lists of networks that are equal element by element.
use Rattle.std.proofs.Common.{◌≡◌, ℕ, suc, ◌<◌, inl, inr, ◌⊎◌, List, [], ◌∷◌, map, length, get_or, sym, ap, ◌∙◌, refl, arith}
use Rattle.std.proofs.lemmas.List.{get_or-map, length-map}
use Rattle.drawings.specs.declared.place.Place.{Place}
use Rattle.network.specs.Links.{Diagram}
use Rattle.network.specs.GraphValue.{diagram}
use Rattle.power_flow.specs.declared.steps.circuit.Circuit.{Circuit}
use Rattle.power_flow.specs.Steps.Circuit.{circuit_diagram}
use Rattle.power_flow.proofs.Ladders.Binds.{elements_of, networks_are}

-- the elements of two lists of circuits are the same where they are the same at each place
pub same_elements_of : (cs ds : List Circuit) → length cs ≡ length ds → ((k : ℕ) (d : Circuit) → k < length cs → elements_of (get_or cs k d) ≡ elements_of (get_or ds k d))
    → map elements_of cs ≡ map elements_of ds
same_elements_of [] [] long h = refl
same_elements_of [] (d ∷ ds) long h = absurd (omega arith)
same_elements_of (c ∷ cs) [] long h = absurd (omega arith)
same_elements_of (c ∷ cs) (d ∷ ds) long h =
    let first = h 0 c (omega arith) in
    let rest = same_elements_of cs ds (omega arith) (λ k x lt. h (suc k) x (omega arith)) in
    cc

-- and only there
pub elements_at : (cs ds : List Circuit) (k : ℕ) (c d : Circuit) → map elements_of cs ≡ map elements_of ds → k < length cs → elements_of (get_or cs k c) ≡ elements_of (get_or ds k d)
elements_at cs ds k c d same lt =
    let long = length-map cs elements_of in
    let other = length-map ds elements_of in
    let equal = ap length same in
    sym (get_or-map elements_of cs k c (elements_of c) lt) ∙ ap (λ l. get_or l k (elements_of c)) same ∙ get_or-map elements_of ds k d (elements_of c) (omega arith)

pub same_length_of : (cs ds : List Circuit) → map elements_of cs ≡ map elements_of ds → length cs ≡ length ds
same_length_of cs ds same = sym (length-map cs elements_of) ∙ ap length same ∙ length-map ds elements_of

-- networks are the same where their elements are, and where the rails are or there is no network
pub same_diagrams : (r s : List Place) (cs ds : List Circuit) → map elements_of cs ≡ map elements_of ds → (cs ≡ []) ⊎ (r ≡ s) → map (circuit_diagram r) cs ≡ map (circuit_diagram s) ds
same_diagrams r s [] [] same h = refl
same_diagrams r s [] (d ∷ ds) same h = absurd cc
same_diagrams r s (c ∷ cs) ds same (inl none) = absurd cc
same_diagrams r s (c ∷ cs) ds same (inr rails) =
    networks_are r (c ∷ cs) (map elements_of ds) same ∙ ap (λ x. map (diagram x) (map elements_of ds)) rails ∙ sym (networks_are s ds (map elements_of ds) refl)

-- and only there
pub diagrams_elements : (r s : List Place) (cs ds : List Circuit) → map (circuit_diagram r) cs ≡ map (circuit_diagram s) ds → map elements_of cs ≡ map elements_of ds
diagrams_elements r s [] [] same = refl
diagrams_elements r s [] (d ∷ ds) same = absurd cc
diagrams_elements r s (c ∷ cs) [] same = absurd cc
diagrams_elements r s (c ∷ cs) (d ∷ ds) same =
    let first : circuit_diagram r c ≡ circuit_diagram s d = cc in
    let here = ap (λ (x : Diagram). x.elements) first in
    let rest = diagrams_elements r s cs ds cc in
    cc

pub diagrams_rails : (r s : List Place) (cs ds : List Circuit) → map (circuit_diagram r) cs ≡ map (circuit_diagram s) ds → (cs ≡ []) ⊎ (r ≡ s)
diagrams_rails r s [] ds same = inl refl
diagrams_rails r s (c ∷ cs) [] same = absurd cc
diagrams_rails r s (c ∷ cs) (d ∷ ds) same =
    let first : circuit_diagram r c ≡ circuit_diagram s d = cc in
    inr (ap (λ (x : Diagram). x.rails) first)
