-- The first of several findings.
use Rattle.std.proofs.Common.{◌≡◌, ℕ, ◌+◌, ◌<◌, ◌≤◌, ◌⊎◌, inl, inr, List, [], ◌∷◌, ◌++◌, Option, Some, None, All, get_or, take, length, refl, sym, ap, ◌∙◌, arith}
use Rattle.std.specs.List.{flat_map}
use Rattle.std.proofs.lemmas.List.{take_more, append-nil}
use Rattle.std.proofs.lemmas.Grind.{flat_map-append}
use Rattle.std.proofs.lemmas.List.Elements.{All-append, All-weaker, All-nil, All-cons, All-head, All-tail, Contains-append_left, Contains-append_right}
use Rattle.network.specs.declared.element.Element.{Element}
use Rattle.name_faults.specs.declared.finding.Finding.{Finding}
use Rattle.declared_names.specs.declared.declarations.Declaration.{Declaration}
use Rattle.name_faults.specs.Findings.{kind_rank, ComesNoLater}
use Rattle.name_faults.specs.Steps.ElementFindings.{HasNoFinding, element_findings, network_findings, findings, IsFirstFinding}
use Rattle.name_faults.specs.Steps.Earlier.{IsEarlierFinding}

up_to_trans : (f g h : Finding) → ComesNoLater f g → ComesNoLater g h → ComesNoLater f h
up_to_trans f g h (inl a) (inl b) = inl (omega arith)
up_to_trans f g h (inl a) (inr b) = inl (let e = b.0 in omega arith)
up_to_trans f g h (inr a) (inl b) = inl (let e = a.0 in omega arith)
up_to_trans f g h (inr a) (inr b) = inr (a.0 ∙ b.0, rows a.1 b.1)
  where
    rows : (f.row < g.row) ⊎ ((f.row ≡ g.row) × (f.column ≤ g.column)) → (g.row < h.row) ⊎ ((g.row ≡ h.row) × (g.column ≤ h.column)) → (f.row < h.row) ⊎ ((f.row ≡ h.row) × (f.column ≤ h.column))
    rows (inl a) (inl b) = inl (omega arith)
    rows (inl a) (inr b) = inl (let e = b.0 in omega arith)
    rows (inr a) (inl b) = inl (let e = a.0 in omega arith)
    rows (inr a) (inr b) = inr (a.0 ∙ b.0, (let e = a.1 in let e' = b.1 in omega arith))

abbrev NoneBefore : Finding → Option Finding → Type 0
NoneBefore f o = (g : Finding) → o ≡ Some g → ComesNoLater f g

none_before : (f : Finding) (o : Option Finding) → o ≡ None → NoneBefore f o
none_before f o is g e = absurd (cc)

still_before : (f g : Finding) → ComesNoLater f g → (o : Option Finding) → NoneBefore g o → NoneBefore f o
still_before f g le o h x e = up_to_trans f g x le (h x e)

-- the first of two lists is the earlier one of their first
pub first_more : (xs ys : List (Option Finding)) (r s t : Option Finding) → IsFirstFinding xs r → IsFirstFinding ys s → IsEarlierFinding r s t → IsFirstFinding (xs ++ ys) t
first_more xs ys None None t h k e = rw e (All-append (λ o. o ≡ None) xs ys h k)
first_more xs ys None (Some g) t h k e = rw e (Contains-append_right xs ys (Some g) k.0, All-append (NoneBefore g) xs ys (All-weaker (λ o. o ≡ None) (NoneBefore g) (none_before g) xs h) k.1)
first_more xs ys (Some f) None t h k e = rw e (Contains-append_left xs ys (Some f) h.0, All-append (NoneBefore f) xs ys h.1 (All-weaker (λ o. o ≡ None) (NoneBefore f) (none_before f) ys k))
first_more xs ys (Some f) (Some g) t h k (inl e) = rw e.1 (Contains-append_left xs ys (Some f) h.0, All-append (NoneBefore f) xs ys h.1 (All-weaker (NoneBefore g) (NoneBefore f) (still_before f g e.0) ys k.1))
first_more xs ys (Some f) (Some g) t h k (inr e) = rw e.1 (Contains-append_right xs ys (Some g) k.0, All-append (NoneBefore g) xs ys (All-weaker (NoneBefore f) (NoneBefore g) (still_before g f e.0) xs h.1) k.1)

pub first_one : (o : Option Finding) → IsFirstFinding (o ∷ []) o
first_one None = All-cons (λ o. o ≡ None) None [] refl (All-nil (λ o. o ≡ None))
first_one (Some f) = ((0, omega arith, refl), All-cons (NoneBefore f) (Some f) [] here (All-nil (NoneBefore f)))
  where
    here : (g : Finding) → Some f ≡ Some g → ComesNoLater f g
    here g e =
        let same : f ≡ g = cc in
        let column = ap (λ (x : Finding). x.column) same in
        inr (ap (λ (x : Finding). kind_rank x.kind) same, inr (ap (λ (x : Finding). x.row) same, omega arith))

pub first_empty : IsFirstFinding [] None
first_empty = All-nil (λ o. o ≡ None)

-- the first of three is the earlier one of the first two and the third
pub first_three : (a b c r t : Option Finding) → IsEarlierFinding a b r → IsEarlierFinding r c t → IsFirstFinding (a ∷ b ∷ c ∷ []) t
first_three a b c r t e f = first_more (a ∷ b ∷ []) (c ∷ []) r c t (first_more (a ∷ []) (b ∷ []) a b r (first_one a) (first_one b) e) (first_one c) f

-- one more list of a list of lists
pub first_flat : {X : Type 0} (F : X → List (Option Finding)) (xs : List X) (n : ℕ) (x : X) (r s t : Option Finding) → n < length xs → x ≡ get_or xs n x
    → IsFirstFinding (flat_map F (take n xs)) r → IsFirstFinding (F x) s → IsEarlierFinding r s t → IsFirstFinding (flat_map F (take (n + 1) xs)) t
first_flat F xs n x r s t lt at was is earlier =
    let here : take (n + 1) xs ≡ take n xs ++ x ∷ [] = take_more xs n x lt ∙ ap (λ y. take n xs ++ y ∷ []) (sym at) in
    let split : flat_map F (take (n + 1) xs) ≡ flat_map F (take n xs) ++ F x =
    ap (flat_map F) here ∙ flat_map-append F (take n xs) (x ∷ []) ∙ ap (λ y. flat_map F (take n xs) ++ y) (append-nil (F x)) in
    rw split (first_more (flat_map F (take n xs)) (F x) r s t was is earlier)

pub first_network : (ds : List Declaration) (networks : List (List Element)) (n : ℕ) (es : List Element) (r s t : Option Finding) → n < length networks → es ≡ get_or networks n es
    → IsFirstFinding (findings ds (take n networks)) r → IsFirstFinding (network_findings ds es) s → IsEarlierFinding r s t → IsFirstFinding (findings ds (take (n + 1) networks)) t
unfolding findings
first_network ds networks n es r s t lt at was is earlier = first_flat (network_findings ds) networks n es r s t lt at was is earlier

pub first_none : (ds : List Declaration) (networks : List (List Element)) → IsFirstFinding (findings ds (take 0 networks)) None
unfolding findings
first_none ds networks = All-nil (λ o. o ≡ None)

pub parts : (xs ys : List (Option Finding)) → All (λ o. o ≡ None) (xs ++ ys) → All (λ o. o ≡ None) xs × All (λ o. o ≡ None) ys
parts [] ys h = (All-nil (λ o. o ≡ None), h)
parts (x ∷ xs) ys h =
    let rest = parts xs ys (All-tail (λ o. o ≡ None) x (xs ++ ys) h) in
    (All-cons (λ o. o ≡ None) x xs (All-head (λ o. o ≡ None) x (xs ++ ys) h) rest.0, rest.1)

-- no fault in all lists is no fault in each
abbrev NoneIn : List (Option Finding) → Type 0
NoneIn xs = All (λ o. o ≡ None) xs

none_in_each : {X : Type 0} (F : X → List (Option Finding)) (xs : List X) → NoneIn (flat_map F xs) → All (λ x. NoneIn (F x)) xs
none_in_each F [] h = All-nil (λ x. NoneIn (F x))
none_in_each F (x ∷ xs) h = let p = parts (F x) (flat_map F xs) h in All-cons (λ y. NoneIn (F y)) x xs p.0 (none_in_each F xs p.1)

pub none_in_networks : (ds : List Declaration) (networks : List (List Element)) → IsFirstFinding (findings ds networks) None → All (HasNoFinding ds) networks
unfolding findings
none_in_networks ds networks h = All-weaker (λ es. NoneIn (network_findings ds es)) (HasNoFinding ds) (λ es none. none_in_each (element_findings ds es) es none) networks (none_in_each (network_findings ds) networks h)
