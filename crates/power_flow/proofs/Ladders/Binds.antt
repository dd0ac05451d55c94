-- A ladder that is bound network by network.
use Rattle.std.proofs.Common.{◌≡◌, ℕ, suc, ◌+◌, ◌<◌, ◌≤◌, Some, slice_get, take, List, [], ◌∷◌, ◌++◌, All, map, max, length, get_or, sym, ap, ◌∙◌, refl, arith}
use Rattle.std.proofs.lemmas.List.Elements.{All-from_recursion, recursion_from_All, All-push, All-pop, All-more, All-weaker, All-nil, All-cons, All-head, All-tail}
use Rattle.std.specs.List.{AllByRecursion}
use Rattle.std.proofs.lemmas.List.{map-append}
use Rattle.drawings.specs.declared.place.Place.{Place}
use Rattle.network.specs.declared.element.Element.{Element}
use Rattle.network.specs.Links.{Diagram}
use Rattle.network.specs.GraphValue.{diagram, IsSoundNetwork}
use Rattle.power_flow.specs.declared.steps.circuit.Circuit.{Circuit}
use Rattle.declared_names.specs.declared.declarations.Declaration.{Declaration}
use Rattle.name_faults.specs.Binding.{IsBoundNetwork, CanBind}
use Rattle.name_faults.specs.Steps.Named.{AreNamed}
use Rattle.power_flow.specs.Steps.Circuit.{IsCircuit, AreCircuits, HasShape, HasRoom, circuit_diagram}
use Rattle.power_flow.specs.Scan.{AllAreWide}

-- one network more
pub elements_more : (circuits : List Circuit) (yielded : List (List Element)) (c : Circuit) (network : List Element)
    → map (λ (c : Circuit). c.elements.items) circuits ≡ yielded → c.elements.items ≡ network
    → map (λ (c : Circuit). c.elements.items) (circuits ++ c ∷ []) ≡ yielded ++ network ∷ []
elements_more circuits yielded c network was here =
    map-append (λ (c : Circuit). c.elements.items) circuits (c ∷ []) ∙ ap (λ x. x ++ c.elements.items ∷ []) was ∙ ap (λ n. yielded ++ n ∷ []) here

pub circuits_more : (ds : List Declaration) (rails : List Place) (circuits : List Circuit) (yielded : List (List Element)) (c : Circuit) (network : List Element)
    → (All (AreNamed ds) yielded → AreCircuits ds rails circuits) → (AreNamed ds network → IsCircuit ds (diagram rails network) c) → c.elements.items ≡ network
    → All (AreNamed ds) (yielded ++ network ∷ []) → AreCircuits ds rails (circuits ++ c ∷ [])
circuits_more ds rails circuits yielded c network were here same named =
    let parts = All-pop (AreNamed ds) (yielded ++ network ∷ []) yielded (Some network) refl named in
    let one : IsCircuit ds (circuit_diagram rails c) c = moved network c.elements.items (sym same) (here parts.1) in
    let P : Circuit → Type 0 = λ c. IsCircuit ds (circuit_diagram rails c) c in
    recursion_from_All P (circuits ++ c ∷ []) (All-push P circuits c (All-from_recursion P circuits (were parts.0)) one)
  where
    moved : (es fs : List Element) → es ≡ fs → IsCircuit ds (diagram rails es) c → IsCircuit ds (diagram rails fs) c
    moved es fs e h = rw (← e) h

pub shapes_more : (circuits : List Circuit) (c : Circuit) → All HasShape circuits → HasShape c → All HasShape (circuits ++ c ∷ [])
shapes_more circuits c were here = All-push HasShape circuits c were here

-- a bound of the first n circuits and of one more
pub most_more : (f : Circuit → ℕ) (circuits : List Circuit) (n old new : ℕ) (c : Circuit) → n < length circuits → c ≡ get_or circuits n c → All (λ x. f x ≤ old) (take n circuits)
    → old ≤ new → f c ≤ new → All (λ x. f x ≤ new) (take (n + 1) circuits)
most_more f circuits n old new c lt is were more here =
    All-more (λ x. f x ≤ new) circuits n c lt (All-weaker (λ x. f x ≤ old) (λ x. f x ≤ new) (λ x h. omega arith) (take n circuits) were)
    (let e = ap f is in omega arith)

-- the least bound of all circuits, once one more is looked at
pub least_more : (f : Circuit → ℕ) (circuits : List Circuit) (k old new : ℕ) (c : Circuit) → k < length circuits → c ≡ get_or circuits k c
    → ((n : ℕ) → All (λ x. f x ≤ n) circuits → old ≤ n) → new ≡ max old (f c) → (n : ℕ) → All (λ x. f x ≤ n) circuits → new ≤ n
least_more f circuits k old new c lt is was made n h =
    let e = ap f is in
    let here = h k c lt in
    let before = was n h in
    omega arith

pub room_of : (circuits : List Circuit) (rows links results : ℕ) → All HasShape circuits → All (λ (c : Circuit). c.rows ≤ rows) circuits
    → All (λ (c : Circuit). length c.coils.items ≤ links) circuits → All (λ (c : Circuit). length c.boxes.items ≤ results) circuits
    → AllByRecursion (HasRoom rows links results) circuits
room_of circuits rows links results shapes most_rows most_links most_results =
    recursion_from_All (HasRoom rows links results) circuits
    (λ k d lt. record { shape = shapes k d lt; rows_in = most_rows k d lt; links_in = most_links k d lt; results_in = most_results k d lt })

abbrev pub elements_of : Circuit → List Element
elements_of c = c.elements.items

pub can_bind_circuits : (ds : List Declaration) (rails : List Place) (circuits : List Circuit) → All (IsBoundNetwork ds) (map elements_of circuits) → CanBind ds (map (circuit_diagram rails) circuits)
can_bind_circuits ds rails [] h = All-nil (λ (d : Diagram). IsBoundNetwork ds d.elements)
can_bind_circuits ds rails (c ∷ circuits) h = All-cons (λ (d : Diagram). IsBoundNetwork ds d.elements) (circuit_diagram rails c) (map (circuit_diagram rails) circuits)
    (All-head (IsBoundNetwork ds) (elements_of c) (map elements_of circuits) h) (can_bind_circuits ds rails circuits (All-tail (IsBoundNetwork ds) (elements_of c) (map elements_of circuits) h))

pub wide_circuits : (rails : List Place) (circuits : List Circuit) → ((k : ℕ) (es : List Element) → slice_get (map elements_of circuits) k ≡ Some es → IsSoundNetwork (diagram rails es))
    → AllAreWide (map (circuit_diagram rails) circuits)
wide_circuits rails [] h = tt
wide_circuits rails (c ∷ circuits) h = ((h 0 (elements_of c) refl).wide, wide_circuits rails circuits (λ k es at. h (suc k) es at))

pub networks_are : (rails : List Place) (circuits : List Circuit) (networks : List (List Element)) → map elements_of circuits ≡ networks
    → map (circuit_diagram rails) circuits ≡ map (diagram rails) networks
networks_are rails circuits networks same = same_diagrams circuits ∙ ap (map (diagram rails)) same
  where
    same_diagrams : (cs : List Circuit) → map (circuit_diagram rails) cs ≡ map (diagram rails) (map elements_of cs)
    same_diagrams [] = refl
    same_diagrams (c ∷ cs) = ap (λ x. diagram rails (elements_of c) ∷ x) (same_diagrams cs)

-- a ladder of networks can be made where it can be made of each
pub can_bind_each : (ds : List Declaration) (rails : List Place) (networks : List (List Element)) → CanBind ds (map (diagram rails) networks) → All (IsBoundNetwork ds) networks
can_bind_each ds rails [] h = All-nil (IsBoundNetwork ds)
can_bind_each ds rails (es ∷ networks) h = All-cons (IsBoundNetwork ds) es networks
    (All-head (λ (d : Diagram). IsBoundNetwork ds d.elements) (diagram rails es) (map (diagram rails) networks) h)
    (can_bind_each ds rails networks (All-tail (λ (d : Diagram). IsBoundNetwork ds d.elements) (diagram rails es) (map (diagram rails) networks) h))

-- the names of circuits are those of their networks
pub circuits_named : (ds : List Declaration) (rails : List Place) (circuits : List Circuit) → AreCircuits ds rails circuits → AllByRecursion (λ (d : Diagram). AreNamed ds d.elements) (map (circuit_diagram rails) circuits)
circuits_named ds rails [] are = tt
circuits_named ds rails (c ∷ circuits) are = (are.0.named, circuits_named ds rails circuits are.1)
